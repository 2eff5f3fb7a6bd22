use Rattle.std.proofs.Common.{arith}
use Rattle.der_values.specs.Grammar.{from_start}
use Rattle.der_values.proofs.Meaning.{is_meant, is_only}
use Rattle.tst_info.specs.Checks.{stamp_checks}
use Rattle.tst_info.specs.Request.{request_shape, request_of, request_seen}
use Rattle.tst_info.proofs.request.read_request.Goals as goal

pub returns-clause-found : goal.returns-clause-found
returns-clause-found c = is_meant stamp_checks request_shape tt (λ p σ. request_of p.0) (from_start c.args.bytes.now) request_seen c.whole_request.result (λ i. omega (arith, c.type_inv.bytes i)) c.whole_request.ensures

pub returns-clause-only : goal.returns-clause-only
returns-clause-only c = λ parts m. is_only stamp_checks request_shape tt (λ p σ. request_of p.0) (from_start c.args.bytes.now) request_seen c.whole_request.result c.whole_request.ensures parts m

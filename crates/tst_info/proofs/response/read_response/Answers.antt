use Rattle.std.proofs.Common.{arith}
use Rattle.der_values.specs.Grammar.{from_start}
use Rattle.der_values.proofs.Meaning.{is_meant, is_only}
use Rattle.tst_info.specs.Response.{response_checks, response_shape, token_of}
use Rattle.tst_info.proofs.response.read_response.Goals as goal

pub returns-clause-found : goal.returns-clause-found
returns-clause-found c = is_meant response_checks response_shape tt (λ p σ. token_of p.0) (from_start c.args.bytes.now) (λ b. b.now) c.whole_response.result (λ i. omega (arith, c.type_inv.bytes i)) c.whole_response.ensures

pub returns-clause-only : goal.returns-clause-only
returns-clause-only c = λ token m. is_only response_checks response_shape tt (λ p σ. token_of p.0) (from_start c.args.bytes.now) (λ b. b.now) c.whole_response.result c.whole_response.ensures token m

use Rattle.der_values.specs.Grammar.{from_start}
use Rattle.der_values.proofs.Meaning.{one_meaning}
use Rattle.tst_info.specs.Checks.{stamp_checks}
use Rattle.tst_info.specs.Request.{request_shape, request_of}
use Rattle.tst_info.proofs.laws.no_bytes_are_two_requests.Goals as goal

pub returns : goal.returns
returns c = λ bytes a b m n. one_meaning stamp_checks request_shape tt (λ p σ. request_of p.0) (from_start bytes) a b m n

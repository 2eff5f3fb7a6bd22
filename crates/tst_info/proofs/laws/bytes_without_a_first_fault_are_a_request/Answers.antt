use Rattle.der_values.specs.Grammar.{from_start}
use Rattle.der_values.proofs.Meaning.{free_means}
use Rattle.tst_info.specs.Checks.{stamp_checks}
use Rattle.tst_info.specs.Request.{request_shape, request_of}
use Rattle.tst_info.proofs.laws.bytes_without_a_first_fault_are_a_request.Goals as goal

pub returns : goal.returns
returns c = λ bytes fits none. free_means stamp_checks request_shape tt (λ p σ. request_of p.0) (from_start bytes) fits none

use Rattle.der_values.specs.Grammar.{from_start}
use Rattle.der_values.proofs.Meaning.{free_means}
use Rattle.tst_info.specs.Response.{response_checks, response_shape, token_of}
use Rattle.tst_info.proofs.laws.bytes_without_a_first_fault_are_a_response.Goals as goal

pub returns : goal.returns
returns c = λ bytes fits none. free_means response_checks response_shape tt (λ p σ. token_of p.0) (from_start bytes) fits none

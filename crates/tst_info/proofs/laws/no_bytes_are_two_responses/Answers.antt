use Rattle.der_values.specs.Grammar.{from_start}
use Rattle.der_values.proofs.Meaning.{one_meaning}
use Rattle.tst_info.specs.Response.{response_checks, response_shape, token_of}
use Rattle.tst_info.proofs.laws.no_bytes_are_two_responses.Goals as goal

pub returns : goal.returns
returns c = λ bytes a b m n. one_meaning response_checks response_shape tt (λ p σ. token_of p.0) (from_start bytes) a b m n

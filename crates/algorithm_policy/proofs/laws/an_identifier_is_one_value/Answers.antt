use Rattle.algorithm_policy.proofs.IdentifierLemmas.{one_value, read_alone}
use Rattle.algorithm_policy.proofs.laws.an_identifier_is_one_value.Goals as goal

pub returns : goal.returns
returns c = λ sid bytes. (one_value sid bytes, read_alone sid)

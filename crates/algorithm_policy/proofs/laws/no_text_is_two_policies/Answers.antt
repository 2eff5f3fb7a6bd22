use Rattle.algorithm_policy.proofs.TextLemmas.{one_policy}
use Rattle.algorithm_policy.proofs.laws.no_text_is_two_policies.Goals as goal

pub returns : goal.returns
returns c = one_policy

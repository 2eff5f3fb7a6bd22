use Rattle.algorithm_policy.proofs.TextLemmas.{one_text}
use Rattle.algorithm_policy.proofs.laws.no_policy_has_two_texts.Goals as goal

pub returns : goal.returns
returns c = one_text

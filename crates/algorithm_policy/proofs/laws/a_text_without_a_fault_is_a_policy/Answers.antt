use Rattle.algorithm_policy.proofs.TextLemmas.{no_fault}
use Rattle.algorithm_policy.proofs.Exists.{policy_of}
use Rattle.algorithm_policy.proofs.laws.a_text_without_a_fault_is_a_policy.Goals as goal

pub returns : goal.returns
returns c = λ text. (λ h. let p = policy_of text h in (p.policy, p.says), λ p. no_fault text p.0 p.1)

use Rattle.std.proofs.Common.{map, take}
use Rattle.algorithm_policy.specs.declared.policy_line.PolicyLine.TheVariants.{Authority}
use Rattle.algorithm_policy.specs.Inside.{Writes}
use Rattle.algorithm_policy.proofs.writing.push_signers.Given as goal

abbrev pub invariant-loop-signer : goal.invariant-loop-signer
invariant-loop-signer l = Writes l.fn.text.items l.text.items (map Authority (take l.signer-index l.signers))

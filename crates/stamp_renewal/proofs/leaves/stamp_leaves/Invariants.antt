use Rattle.std.proofs.Common.{◌≡◌, ◌++◌, drop}
use Rattle.stamp_renewal.specs.Tokens.{digests_of}
use Rattle.stamp_renewal.proofs.leaves.stamp_leaves.Given as goal

abbrev pub invariant-loop-token : goal.invariant-loop-token
invariant-loop-token l = l.leaves.items ++ digests_of l.alg (drop l.token-index l.tokens) ≡ digests_of l.fn.alg l.fn.tokens

use Rattle.std.proofs.Common.{take}
use Rattle.std.specs.List.{concat}
use Rattle.hash_kit.specs.Hashing.{Hashes}
use Rattle.hash_kit.proofs.nodes.digest_in_turn.Given as goal

abbrev pub invariant-loop-value : goal.invariant-loop-value
invariant-loop-value l = Hashes l.hasher l.fn.alg (concat (take l.value-index l.values))

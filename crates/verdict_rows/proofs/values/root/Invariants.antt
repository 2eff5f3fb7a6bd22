use Rattle.std.proofs.Common.{take}
use Rattle.std.specs.List.{flat_map}
use Rattle.hash_kit.specs.Hashing.{Hashes}
use Rattle.verdict_rows.proofs.values.root.Given as goal

abbrev pub invariant-loop-value : goal.invariant-loop-value
invariant-loop-value l = Hashes l.hasher l.fn.alg (flat_map (λ v. v) (take l.value-index l.values))

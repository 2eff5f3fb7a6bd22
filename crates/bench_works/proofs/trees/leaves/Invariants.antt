use Rattle.std.proofs.Common.{◌≡◌, length}
use Rattle.std.specs.Prelude.{map}
use Rattle.std.specs.List.{range_with_len}
use Rattle.bench_works.specs.Leaves.{leaf_of}
use Rattle.bench_works.proofs.trees.leaves.Given as goal

abbrev pub invariant-loop-number : goal.invariant-loop-number
invariant-loop-number l = (l.leaves.items ≡ map leaf_of (range_with_len 0 l.number)) × (length l.leaves.items ≡ l.number)

use Rattle.std.proofs.Common.{◌≡◌, ◌-◌, ◌≤◌, ◌++◌, length, drop}
use Rattle.hash_tree.specs.Inside.{pairs}
use Rattle.hash_tree.proofs.levels.level_above.Given as goal

abbrev pub invariant-loop-place : goal.invariant-loop-place
invariant-loop-place l = (l.place ≤ length l.level) × (l.above.items ++ pairs l.alg (drop l.place l.level) ≡ pairs l.fn.alg l.fn.level)

abbrev pub decreases-loop-place : goal.decreases-loop-place
decreases-loop-place l = length l.level - l.place

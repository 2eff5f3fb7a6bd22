use Rattle.std.proofs.Common.{◌≡◌, ◌<◌, ◌++◌, List, ℕ, length}
use Rattle.hash_tree.specs.Tree.{tree_root}
use Rattle.hash_tree.specs.Inside.{AreLevels}
use Rattle.hash_tree.proofs.tree.LevelTree.build.Given as goal

abbrev pub invariant-loop-alloc : goal.invariant-loop-alloc
invariant-loop-alloc l =
    (0 < length l.level)
    × (tree_root l.fn.alg l.level ≡ tree_root l.fn.alg l.fn.leaves)
    × ((above : List (List (List ℕ))) → AreLevels l.fn.alg l.level above → AreLevels l.fn.alg l.fn.leaves (l.levels.items ++ above))

abbrev pub decreases-loop-alloc : goal.decreases-loop-alloc
decreases-loop-alloc l = length l.level

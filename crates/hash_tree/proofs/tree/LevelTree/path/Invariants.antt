use Rattle.std.proofs.Common.{◌≡◌, ◌++◌, drop}
use Rattle.hash_tree.specs.Tree.{tree_path}
use Rattle.hash_tree.specs.Inside.{neighbours}
use Rattle.hash_tree.proofs.tree.LevelTree.path.Given as goal

abbrev pub invariant-loop-level : goal.invariant-loop-level
invariant-loop-level l = l.path.items ++ neighbours (drop l.level-index l.level-items) l.place ≡ tree_path l.fn.self.alg l.fn.self.leaves l.fn.place

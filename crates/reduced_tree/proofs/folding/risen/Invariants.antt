use Rattle.std.proofs.Common.{◌≡◌, drop}
use Rattle.reduced_tree.specs.Reduced.{AreFull, rises}
use Rattle.reduced_tree.proofs.folding.risen.Given as goal

abbrev pub invariant-loop-list : goal.invariant-loop-list
invariant-loop-list l = (rises l.alg l.root (drop l.list-index l.lists) ≡ rises l.fn.alg l.fn.value l.fn.lists) × AreFull (drop l.list-index l.lists)

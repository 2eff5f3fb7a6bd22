use Rattle.std.proofs.Common.{◌↔◌, drop}
use Rattle.std.specs.Prelude.{Contains}
use Rattle.std.specs.List.{AllByRecursion}
use Rattle.reduced_tree.proofs.members.are_among.Given as goal

abbrev pub invariant-loop-value : goal.invariant-loop-value
invariant-loop-value l =
    AllByRecursion (λ value. Contains l.values value) l.fn.first ↔ AllByRecursion (λ value. Contains l.values value) (drop l.value-index l.first)

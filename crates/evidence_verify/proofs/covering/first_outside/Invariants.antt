use Rattle.std.proofs.Common.{◌≡◌, not, ◌&&◌, drop}
use Rattle.std.specs.List.{position_from}
use Rattle.reduced_tree.specs.Reduced.{first_of}
use Rattle.evidence_verify.specs.Covers.{has}
use Rattle.evidence_verify.proofs.covering.first_outside.Given as goal

abbrev pub invariant-loop-value : goal.invariant-loop-value
invariant-loop-value l =
    (l.number ≡ l.value-index)
    × (position_from (λ v. not (has (first_of l.lists) v && l.rooted)) l.number (drop l.value-index l.values)
    ≡ position_from (λ v. not (has (first_of l.fn.lists) v && l.fn.rooted)) 0 l.fn.values)

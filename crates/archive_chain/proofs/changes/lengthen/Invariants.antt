use Rattle.std.proofs.Common.{◌≡◌, ◌<◌, ◌≤◌, length, vec_len, vec_capacity}
use Rattle.std.specs.List.{AllByRecursion}
use Rattle.archive_chain.specs.declared.row.Longer.{Longer}
use Rattle.archive_chain.specs.InsideTable.{lengthened}
use Rattle.archive_chain.proofs.changes.lengthen.Given as goal

abbrev pub invariant-loop-l : goal.invariant-loop-l
invariant-loop-l l = (lengthened l.longer.items l.rows.items ≡ lengthened l.fn.longer.items l.initial.rows.items)
    × AllByRecursion (λ (x : Longer). x.row < length l.rows.items) l.longer.items
    × (vec_len l.rows ≡ vec_len l.initial.rows) × (vec_capacity l.initial.rows ≤ vec_capacity l.rows)

abbrev pub decreases-loop-l : goal.decreases-loop-l
decreases-loop-l l = vec_len l.longer

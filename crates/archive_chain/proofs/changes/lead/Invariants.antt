use Rattle.std.proofs.Common.{◌≡◌, ◌<◌, ◌≤◌, length, vec_len, vec_capacity}
use Rattle.std.specs.List.{AllByRecursion}
use Rattle.archive_chain.specs.InsideTable.{led}
use Rattle.archive_chain.proofs.changes.lead.Given as goal

abbrev pub invariant-loop-place : goal.invariant-loop-place
invariant-loop-place l = (led l.next l.places.items l.rows.items ≡ led l.next l.fn.places.items l.initial.rows.items)
    × AllByRecursion (λ place. place < length l.rows.items) l.places.items
    × (vec_len l.rows ≡ vec_len l.initial.rows) × (vec_capacity l.initial.rows ≤ vec_capacity l.rows)

abbrev pub decreases-loop-place : goal.decreases-loop-place
decreases-loop-place l = vec_len l.places

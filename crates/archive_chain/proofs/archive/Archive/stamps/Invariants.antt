use Rattle.std.proofs.Common.{◌≡◌, ◌+◌, length}
use Rattle.std.specs.Prelude.{slice_index_or, []}
use Rattle.archive_chain.specs.InsideRows.{walk}
use Rattle.archive_chain.specs.InsideTable.{rows_seen, sealed_in}
use Rattle.archive_chain.proofs.Walking.{Within, left}
use Rattle.archive_chain.proofs.archive.Archive.stamps.Given as goal

abbrev pub invariant-loop-at : goal.invariant-loop-at
invariant-loop-at l =
    (l.count + length (walk l.id 0 l.at (rows_seen l.self-inside.stamps.items l.self-inside.rows.items))
    ≡ length (slice_index_or (sealed_in l.self-inside.stamps.items l.self-inside.rows.items l.self-inside.firsts.items) l.id []))
    × Within (length l.self-inside.rows.items) l.at

abbrev pub decreases-loop-at : goal.decreases-loop-at
decreases-loop-at l = left (length l.self-inside.rows.items) l.at

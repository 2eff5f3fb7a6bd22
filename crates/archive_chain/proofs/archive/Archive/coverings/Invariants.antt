use Rattle.std.proofs.Common.{◌≡◌, ◌++◌, length, map}
use Rattle.archive_chain.specs.InsideRows.{walk}
use Rattle.archive_chain.specs.InsideTable.{rows_seen}
use Rattle.archive_chain.specs.InsideCovers.{covering_seen, told_by}
use Rattle.archive_chain.proofs.Walking.{Within, left}
use Rattle.archive_chain.proofs.archive.Archive.coverings.Given as goal

abbrev pub invariant-loop-at : goal.invariant-loop-at
invariant-loop-at l =
    (map covering_seen l.coverings.items ++ map (told_by l.self-inside.stamps.items) (walk l.id 0 l.at (rows_seen l.self-inside.stamps.items l.self-inside.rows.items))
    ≡ map (told_by l.self-inside.stamps.items) (walk l.id 0 l.initial.at (rows_seen l.self-inside.stamps.items l.self-inside.rows.items)))
    × Within (length l.self-inside.rows.items) l.at

abbrev pub decreases-loop-at : goal.decreases-loop-at
decreases-loop-at l = left (length l.self-inside.rows.items) l.at

use Rattle.std.proofs.Common.{◌≡◌, ◌++◌, ◌∷◌, map, drop}
use Rattle.archive_chain.specs.InsideRows.{begun}
use Rattle.archive_chain.specs.InsideTable.{later_seen, row_seen, IsTreedLater}
use Rattle.archive_chain.specs.InsideCovers.{covering_seen, told_by}
use Rattle.std.specs.List.{AllByRecursion}
use Rattle.archive_chain.proofs.coverings.with_chain.Given as goal

abbrev pub invariant-loop-later : goal.invariant-loop-later
invariant-loop-later l =
    (map covering_seen l.all.items ++ map (told_by l.stamps) (map (later_seen l.stamps) (drop l.later-index l.row.later.items))
    ≡ map covering_seen l.fn.coverings.items ++ map (told_by l.stamps) (begun (row_seen l.stamps l.row) 0 ∷ map (later_seen l.stamps) l.row.later.items))
    × AllByRecursion (IsTreedLater l.stamps) (drop l.later-index l.row.later.items)

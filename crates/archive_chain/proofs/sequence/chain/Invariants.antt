use Rattle.std.proofs.Common.{◌≡◌, ◌+◌, map, drop}
use Rattle.evidence_syntax.specs.Stamps.{stamp_seen}
use Rattle.archive_chain.specs.InsideRows.{begun}
use Rattle.archive_chain.specs.InsideTable.{leaves_in, later_seen, row_seen}
use Rattle.archive_chain.specs.InsideReadable.{further_all, chain_made, IsTreedLater}
use Rattle.evidence_syntax.specs.Stamps.{chains_seen}
use Rattle.archive_chain.proofs.Reading.{SoFar}
use Rattle.archive_chain.proofs.Sizes.{AreSized}
use Rattle.std.specs.List.{AllByRecursion}
use Rattle.archive_chain.proofs.sequence.chain.Given as goal

abbrev pub invariant-loop-later : goal.invariant-loop-later
invariant-loop-later l =
    (further_all (map leaves_in l.stamps) (map stamp_seen l.all.items) (map (later_seen l.stamps) (drop l.later-index l.row.later.items))
    ≡ chain_made (map leaves_in l.stamps) l.fn.group (chains_seen l.fn.older) (begun (row_seen l.stamps l.row) l.fn.id) (map (later_seen l.stamps) l.row.later.items))
    × SoFar (map stamp_seen l.all.items) l.token
    × AllByRecursion (IsTreedLater l.stamps) (drop l.later-index l.row.later.items)
    × AreSized (map stamp_seen l.all.items) (l.later-index + 1)

use Rattle.std.proofs.Common.{take}
use Rattle.archive_chain.specs.InsidePieces.{AreAt}
use Rattle.archive_chain.proofs.archive.Archive.rows_at.Given as goal

abbrev pub invariant-loop-cohort : goal.invariant-loop-cohort
invariant-loop-cohort l = AreAt l.self.room.table l.places.items (take l.cohort-index l.cohorts)

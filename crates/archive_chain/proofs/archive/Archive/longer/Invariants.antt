use Rattle.std.proofs.Common.{take}
use Rattle.archive_chain.specs.InsidePieces.{AreAdded}
use Rattle.archive_chain.proofs.archive.Archive.longer.Given as goal

abbrev pub invariant-loop-place : goal.invariant-loop-place
invariant-loop-place l = AreAdded l.self.room.table l.self.kept.entries 0 l.all.items (take l.place l.cohorts)

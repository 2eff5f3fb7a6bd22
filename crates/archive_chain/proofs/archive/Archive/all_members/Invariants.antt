use Rattle.std.proofs.Common.{◌≡◌, take}
use Rattle.archive_chain.specs.InsideRows.{joined}
use Rattle.archive_chain.proofs.archive.Archive.all_members.Given as goal

abbrev pub invariant-loop-cohort : goal.invariant-loop-cohort
invariant-loop-cohort l = l.ids.items ≡ joined (take l.cohort-index l.cohorts) l.self.kept.sealed

use Rattle.std.proofs.Common.{take}
use Rattle.archive_chain.specs.InsideFull.{IsPeakSoFar}
use Rattle.archive_chain.proofs.archive.Archive.peak_in.Given as goal

abbrev pub invariant-loop-cohort : goal.invariant-loop-cohort
invariant-loop-cohort l = IsPeakSoFar l.self.kept.sealed (take l.cohort-index l.cohorts) l.peak

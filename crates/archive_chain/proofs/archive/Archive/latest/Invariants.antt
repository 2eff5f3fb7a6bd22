use Rattle.std.proofs.Common.{take}
use Rattle.archive_chain.specs.InsideToken.{IsLatestSoFar}
use Rattle.archive_chain.proofs.archive.Archive.latest.Given as goal

abbrev pub invariant-loop-cohort : goal.invariant-loop-cohort
invariant-loop-cohort l = IsLatestSoFar l.self.kept l.self.policy (take l.cohort-index l.cohorts) l.latest

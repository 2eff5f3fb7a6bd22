use Rattle.std.proofs.Common.{◌≡◌, take}
use Rattle.archive_chain.specs.Rules.{first_full}
use Rattle.archive_chain.proofs.archive.Archive.first_full.Given as goal

abbrev pub invariant-loop-cohort : goal.invariant-loop-cohort
invariant-loop-cohort l = l.first ≡ first_full (take l.cohort-index l.cohorts) 0 l.self.kept.sealed

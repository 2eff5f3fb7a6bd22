use Rattle.std.proofs.Common.{Some, None, sym, ◌∙◌}
use Rattle.archive_chain.proofs.Fullest.{full_is, full_some, full_none}
use Rattle.archive_chain.proofs.archive.Archive.full_of.Goals as goal

pub returns-then-peak-ge-MOST_STAMPS : goal.returns-then-peak-ge-MOST_STAMPS
returns-then-peak-ge-MOST_STAMPS c =
    sym (full_some c.in-Some.peak c.if-peak-ge-MOST_STAMPS.true) ∙ full_is c.args.self.now.kept.sealed c.args.cohort (Some c.in-Some.peak) c.in-Some.ensures

pub returns-else-peak-ge-MOST_STAMPS : goal.returns-else-peak-ge-MOST_STAMPS
returns-else-peak-ge-MOST_STAMPS c =
    sym (full_none c.in-Some.peak c.if-peak-ge-MOST_STAMPS.false) ∙ full_is c.args.self.now.kept.sealed c.args.cohort (Some c.in-Some.peak) c.in-Some.ensures

pub returns-in-None : goal.returns-in-None
returns-in-None c = full_is c.args.self.now.kept.sealed c.args.cohort None c.in-None.ensures

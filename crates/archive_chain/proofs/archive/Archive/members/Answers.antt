use Rattle.archive_chain.specs.Kept.{cohorts_in}
use Rattle.archive_chain.proofs.Copying.{named_contained}
use Rattle.archive_chain.proofs.archive.Archive.members.Goals as goal

pub members_of-requires : goal.members_of-requires
members_of-requires c = named_contained (cohorts_in c.args.self.now.kept.sealed) c.args.cohort c.requires

use Rattle.archive_chain.proofs.Chosen.{ascending_rises, all_live}
use Rattle.archive_chain.proofs.archive.Archive.members_together.Goals as goal

pub members_in-requires-clause-rising : goal.members_in-requires-clause-rising
members_in-requires-clause-rising c = ascending_rises c.args.cohorts.now c.requires.spelled.ascending

pub members_in-requires-clause-live : goal.members_in-requires-clause-live
members_in-requires-clause-live c = all_live c.args.self.now.kept c.args.cohorts.now c.requires.live

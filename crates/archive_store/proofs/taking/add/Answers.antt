use Rattle.archive_store.proofs.Stored.{groups_kept}
use Rattle.archive_store.proofs.taking.add.Goals as goal

pub push-requires-clause-groups : goal.push-requires-clause-groups
push-requires-clause-groups c = groups_kept c.args.entry.now c.in-Ok.stored c.requires.spelled c.in-Ok.ensures

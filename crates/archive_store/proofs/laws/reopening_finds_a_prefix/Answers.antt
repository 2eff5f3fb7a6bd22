use Rattle.archive_store.proofs.Reopening.{reopens}
use Rattle.archive_store.proofs.laws.reopening_finds_a_prefix.Goals as goal

pub returns : goal.returns
returns c = reopens

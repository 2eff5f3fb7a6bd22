use Rattle.std.proofs.Common.{◌∙◌}
use Rattle.archive_chain.proofs.Live.{row_live}
use Rattle.archive_chain.proofs.archive.Archive.is_live.Goals as goal

pub returns : goal.returns
returns c = c.is_some.ensures ∙ row_live c.args.self.now c.args.cohort c.row_of.result c.row_of.ensures

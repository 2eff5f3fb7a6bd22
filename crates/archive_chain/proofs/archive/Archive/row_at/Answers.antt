use Rattle.std.proofs.Common.{sym, ◌∙◌}
use Rattle.archive_chain.proofs.Live.{named_live}
use Rattle.archive_chain.proofs.archive.Archive.row_at.Goals as goal

pub unreachable-requires : goal.unreachable-requires
unreachable-requires c =
    let live = named_live c.args.cohort c.args.self.now.kept.sealed in
    let none = c.in-None.ensures in
    let some = c.requires in
    let wrong = sym none ∙ live ∙ some in cc

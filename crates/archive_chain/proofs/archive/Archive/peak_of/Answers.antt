use Rattle.std.proofs.Common.{ap}
use Rattle.archive_chain.specs.Held.{Held}
use Rattle.archive_chain.proofs.Sharing.{peak_at}
use Rattle.archive_chain.proofs.archive.Archive.peak_of.Goals as goal

pub returns-in-Some : goal.returns-in-Some
returns-in-Some c =
    peak_at c.self.inside.stamps.items c.self.inside.rows.items c.self.inside.firsts.items c.self.inside.pending c.self.invariant.0 c.args.self.now c.in-Some.place c.args.cohort c.index-row.result.now
    (ap (λ (h : Held). h.room.table) c.self.view_is) (ap (λ (h : Held). h.kept.sealed) c.self.view_is) c.in-Some.ensures c.index-row.ensures

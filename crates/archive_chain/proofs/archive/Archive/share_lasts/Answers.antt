use Rattle.std.proofs.Common.{subst}
use Rattle.archive_chain.specs.Held.{Held}
use Rattle.archive_chain.specs.InsideToken.{SharesLast}
use Rattle.archive_chain.proofs.Sharing.{shared}
use Rattle.archive_chain.proofs.archive.Archive.share_lasts.Goals as goal

pub returns : goal.returns
returns c =
    subst (λ (h : Held). SharesLast h.kept) c.self.view_is (record { each = shared c.self.inside.stamps.items c.self.inside.rows.items c.self.inside.firsts.items c.self.inside.pending c.self.invariant.0 })

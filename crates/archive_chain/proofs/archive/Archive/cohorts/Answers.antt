use Rattle.std.proofs.Common.{sym, ap, ◌∙◌}
use Rattle.archive_chain.specs.Kept.{cohorts_in}
use Rattle.archive_chain.specs.Held.{Held}
use Rattle.archive_chain.specs.InsideTable.{sealed_in}
use Rattle.archive_chain.proofs.Listing.{names_same}
use Rattle.archive_chain.proofs.archive.Archive.cohorts.Goals as goal

pub returns : goal.returns
returns c =
    c.as_slice.ensures.value ∙ c.self.invariant.2.names_are ∙ sym (names_same (sealed_in c.self.inside.stamps.items c.self.inside.rows.items c.self.inside.firsts.items))
    ∙ ap (λ (h : Held). cohorts_in h.kept.sealed) c.self.view_is

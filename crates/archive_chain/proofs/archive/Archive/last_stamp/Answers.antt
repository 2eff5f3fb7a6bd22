use Rattle.std.proofs.Common.{arith, ◌≡◌, Some, None, length, map, sym, ap, subst, ◌∙◌}
use Rattle.archive_chain.specs.Kept.{Last, cohort_last}
use Rattle.archive_chain.specs.Held.{Held}
use Rattle.archive_chain.specs.InsideTable.{Stamps, plain_of, stamp_at}
use Rattle.archive_chain.specs.InsideLast.{last_entry}
use Rattle.archive_chain.specs.InsidePieces.{IsAt}
use Rattle.archive_chain.specs.InsideSaid.{IsSaid}
use Rattle.archive_chain.proofs.Finding.{row_within}
use Rattle.archive_chain.proofs.Live.{no_last, row_live}
use Rattle.archive_chain.proofs.Sharing.{lasts_at, seen_at, said_at}
use Rattle.archive_chain.proofs.archive.Archive.last_stamp.Goals as goal

pub index-requires : goal.index-requires
index-requires c =
    let at : IsAt (map plain_of c.self.inside.rows.items) c.in-Some.place c.args.cohort = subst (λ (h : Held). IsAt h.room.table c.in-Some.place c.args.cohort) (sym c.self.view_is) c.in-Some.ensures.at in
    let less = row_within c.self.inside.rows.items c.in-Some.place c.args.cohort at in
    let len = c.self.inside.rows.ok.0 in
    omega (arith, less, len)

pub stamp_in-requires-clause-within : goal.stamp_in-requires-clause-within
stamp_in-requires-clause-within c =
    let lasts = lasts_at c.self.inside.stamps.items c.self.inside.rows.items c.self.inside.firsts.items c.self.inside.pending c.self.invariant.0 c.args.self.now c.in-Some.place c.args.cohort c.index.result.now
    (ap (λ (h : Held). h.room.table) c.self.view_is) (ap (λ (h : Held). h.kept.sealed) c.self.view_is) c.in-Some.ensures c.index.ensures in
    let less = lasts.there.within in
    let is = c.last_entry-last.ensures in
    let many = ap (λ (s : Stamps). length s) c.as_slice.ensures.value in
    omega (arith, less, is, many)

pub stamp_in-requires-clause-some : goal.stamp_in-requires-clause-some
stamp_in-requires-clause-some c =
    let lasts = lasts_at c.self.inside.stamps.items c.self.inside.rows.items c.self.inside.firsts.items c.self.inside.pending c.self.invariant.0 c.args.self.now c.in-Some.place c.args.cohort c.index.result.now
    (ap (λ (h : Held). h.room.table) c.self.view_is) (ap (λ (h : Held). h.kept.sealed) c.self.view_is) c.in-Some.ensures c.index.ensures in
    (lasts.there.stamp, (λ i. stamp_at (c.as_slice.ensures.value i) (c.last_entry-last.ensures i)) ∙ lasts.there.there)

pub returns-in-Some-clause-last : goal.returns-in-Some-clause-last
returns-in-Some-clause-last c =
    let lasts = lasts_at c.self.inside.stamps.items c.self.inside.rows.items c.self.inside.firsts.items c.self.inside.pending c.self.invariant.0 c.args.self.now c.in-Some.place c.args.cohort c.index.result.now
    (ap (λ (h : Held). h.room.table) c.self.view_is) (ap (λ (h : Held). h.kept.sealed) c.self.view_is) c.in-Some.ensures c.index.ensures in
    let there : stamp_at c.self.inside.stamps.items (last_entry c.index.result.now.stamp c.index.result.now.later.items) ≡ Some c.stamp_in.result.now =
    sym (λ i. stamp_at (c.as_slice.ensures.value i) (c.last_entry-last.ensures i)) ∙ c.stamp_in.ensures in
    sym (ap (λ (l : Last). Some l) (seen_at c.self.inside.stamps.items (last_entry c.index.result.now.stamp c.index.result.now.later.items) c.stamp_in.result.now there))
    ∙ sym lasts.last ∙ ap (λ (h : Held). cohort_last h.kept.sealed c.args.cohort) c.self.view_is

pub returns-in-None-clause-last : goal.returns-in-None-clause-last
returns-in-None-clause-last c = sym (no_last c.args.cohort c.args.self.now.kept.sealed c.in-None.ensures)

pub returns-in-Some-clause-said : goal.returns-in-Some-clause-said
returns-in-Some-clause-said c =
    let lasts = lasts_at c.self.inside.stamps.items c.self.inside.rows.items c.self.inside.firsts.items c.self.inside.pending c.self.invariant.0 c.args.self.now c.in-Some.place c.args.cohort c.index.result.now
    (ap (λ (h : Held). h.room.table) c.self.view_is) (ap (λ (h : Held). h.kept.sealed) c.self.view_is) c.in-Some.ensures c.index.ensures in
    let there : stamp_at c.self.inside.stamps.items (last_entry c.index.result.now.stamp c.index.result.now.later.items) ≡ Some c.stamp_in.result.now =
    sym (λ i. stamp_at (c.as_slice.ensures.value i) (c.last_entry-last.ensures i)) ∙ c.stamp_in.ensures in
    subst (λ (h : Held). IsSaid h.policy c.stamp_in.result.now) c.self.view_is
    (said_at c.self.inside.policy c.self.inside.stamps.items (last_entry c.index.result.now.stamp c.index.result.now.later.items) c.stamp_in.result.now c.self.invariant.4 lasts.there.within there)

pub returns-in-Some-clause-live : goal.returns-in-Some-clause-live
returns-in-Some-clause-live c = row_live c.args.self.now c.args.cohort (Some c.in-Some.place) c.in-Some.ensures

pub returns-in-None-clause-live : goal.returns-in-None-clause-live
returns-in-None-clause-live c = row_live c.args.self.now c.args.cohort None c.in-None.ensures

use Rattle.std.proofs.Common.{◌<◌, ℕ, Option, List, length, slice_get, refl, sym, ap, subst, ◌∙◌}
use Rattle.archive_chain.specs.Kept.{covers_of, first_from}
use Rattle.archive_chain.specs.Held.{Held}
use Rattle.archive_chain.specs.InsideRows.{walk}
use Rattle.archive_chain.specs.InsideTable.{rows_seen}
use Rattle.archive_chain.proofs.RowsRenewing.{nothing}
use Rattle.archive_chain.proofs.Walking.{left, started}
use Rattle.archive_chain.proofs.Meeting.{here, from_later, from_here}
use Rattle.archive_chain.proofs.archive.Archive.cover_from.Goals as goal

pub loop-at-init : goal.loop-at-init
loop-at-init c = (
  refl,
  (started c.self.inside.stamps.items c.self.inside.rows.items c.self.inside.firsts.items c.args.id c.first_of-at.result c.self.invariant.0.starts
      (c.first_of-at.ensures ∙ ap (λ (xs : List ℕ). slice_get xs c.args.id) c.as_slice.ensures.value)).1,
)

pub returns-in-Some-entry_from : goal.returns-in-Some-entry_from
returns-in-Some-entry_from c =
    sym (from_here c.self.inside.stamps.items c.self.inside.rows.items c.args.id c.in-Some.place c.args.front c.index-row.result.now c.loop-at.at c.self.invariant.0.are_rows c.index-row.ensures c.in-Some.is c.loop-at.invariant.1
    c.in-Some-entry_from.entry (sym c.entry_from.ensures ∙ c.in-Some-entry_from.is))
    ∙ c.loop-at.invariant.0
    ∙ ap (first_from c.args.front) (started c.self.inside.stamps.items c.self.inside.rows.items c.self.inside.firsts.items c.args.id c.first_of-at.result c.self.invariant.0.starts
    (c.first_of-at.ensures ∙ ap (λ (xs : List ℕ). slice_get xs c.args.id) c.as_slice.ensures.value)).0
    ∙ ap (λ (h : Held). first_from c.args.front (covers_of h.kept c.args.id)) c.self.view_is

pub loop-at-smaller : goal.loop-at-smaller
loop-at-smaller c =
    let v = here c.self.inside.stamps.items c.self.inside.rows.items c.args.id c.in-Some.place c.args.front c.index-row.result.now c.loop-at.at c.self.invariant.0.are_rows c.index-row.ensures c.in-Some.is c.loop-at.invariant.1 in
    subst (λ (o : Option ℕ). left (length c.self.inside.rows.items) c.index-row.result.now.next < left (length c.self.inside.rows.items) o) (sym c.in-Some.is) v.smaller

pub loop-at-preserved : goal.loop-at-preserved
loop-at-preserved c =
    let v = here c.self.inside.stamps.items c.self.inside.rows.items c.args.id c.in-Some.place c.args.front c.index-row.result.now c.loop-at.at c.self.invariant.0.are_rows c.index-row.ensures c.in-Some.is c.loop-at.invariant.1 in (
      sym (from_later c.self.inside.stamps.items c.self.inside.rows.items c.args.id c.in-Some.place c.args.front c.index-row.result.now c.loop-at.at c.self.invariant.0.are_rows c.index-row.ensures c.in-Some.is c.loop-at.invariant.1
          (sym c.entry_from.ensures ∙ c.in_default-entry_from.is)) ∙ c.loop-at.invariant.0,
      v.within,
    )

pub returns : goal.returns
returns c =
    sym (sym c.loop-at.invariant.0 ∙ ap (λ (o : Option ℕ). first_from c.args.front (walk c.args.id 0 o (rows_seen c.self.inside.stamps.items c.self.inside.rows.items))) c.in_default.is
    ∙ ap (first_from c.args.front) (nothing c.args.id 0 (rows_seen c.self.inside.stamps.items c.self.inside.rows.items)))
    ∙ ap (first_from c.args.front) (started c.self.inside.stamps.items c.self.inside.rows.items c.self.inside.firsts.items c.args.id c.first_of-at.result c.self.invariant.0.starts
    (c.first_of-at.ensures ∙ ap (λ (xs : List ℕ). slice_get xs c.args.id) c.as_slice.ensures.value)).0
    ∙ ap (λ (h : Held). first_from c.args.front (covers_of h.kept c.args.id)) c.self.view_is

use Rattle.std.proofs.Common.{arith, ◌≡◌, ◌<◌, ℕ, length, List, [], ◌∷◌, true, map, slice_index_or, sym, ap, subst, ◌∙◌}
use Rattle.archive_chain.specs.Kept.{cohort_of, cohorts_in, ids_in, has_name, place_of}
use Rattle.archive_chain.specs.Held.{Held}
use Rattle.std.specs.List.{AllByRecursion}
use Rattle.archive_chain.specs.InsideTable.{Rises, ids_seen, rows_seen, sealed_in}
use Rattle.archive_chain.proofs.Copying.{ids_below}
use Rattle.archive_chain.proofs.Walking.{sealed_length}
use Rattle.archive_chain.proofs.Cohorts.{ids_same}
use Rattle.archive_chain.proofs.Listing.{names_same, names_rise}
use Rattle.archive_chain.proofs.Membering.{at_within, place_within, members_are}
use Rattle.archive_chain.proofs.archive.Archive.members_of.Goals as goal

pub search-at-requires-clause-rising : goal.search-at-requires-clause-rising
search-at-requires-clause-rising c =
    subst Rises (sym (c.as_slice.ensures.value ∙ c.self.invariant.2.names_are)) (names_rise (map cohort_of (sealed_in c.self.inside.stamps.items c.self.inside.rows.items c.self.inside.firsts.items)))

pub search-at-requires-clause-member : goal.search-at-requires-clause-member
search-at-requires-clause-member c =
    ap (λ (names : List ℕ). has_name names c.args.cohort)
    (c.as_slice.ensures.value ∙ c.self.invariant.2.names_are ∙ sym (names_same (sealed_in c.self.inside.stamps.items c.self.inside.rows.items c.self.inside.firsts.items))
    ∙ ap (λ (h : Held). cohorts_in h.kept.sealed) c.self.view_is)
    ∙ c.requires

pub index-requires : goal.index-requires
index-requires c =
    let member : has_name c.self.inside.names.items c.args.cohort ≡ true =
    ap (λ (names : List ℕ). has_name names c.args.cohort)
    (c.self.invariant.2.names_are ∙ sym (names_same (sealed_in c.self.inside.stamps.items c.self.inside.rows.items c.self.inside.firsts.items)) ∙ ap (λ (h : Held). cohorts_in h.kept.sealed) c.self.view_is) ∙ c.requires in
    let less = at_within c.self.inside.rows.items _ c.self.inside.names.items c.self.inside.live.items c.self.invariant.2 c.args.cohort member in
    let at = c.search-at.ensures ∙ ap (λ (names : List ℕ). place_of names c.args.cohort) c.as_slice.ensures.value in
    let len = c.self.inside.live.ok.0 in
    omega (arith, less, at, len)

pub index-requires-2 : goal.index-requires-2
index-requires-2 c =
    let member : has_name c.self.inside.names.items c.args.cohort ≡ true =
    ap (λ (names : List ℕ). has_name names c.args.cohort)
    (c.self.invariant.2.names_are ∙ sym (names_same (sealed_in c.self.inside.stamps.items c.self.inside.rows.items c.self.inside.firsts.items)) ∙ ap (λ (h : Held). cohorts_in h.kept.sealed) c.self.view_is) ∙ c.requires in
    let at = c.search-at.ensures ∙ ap (λ (names : List ℕ). place_of names c.args.cohort) c.as_slice.ensures.value in
    let is : c.index.result.now ≡ slice_index_or c.self.inside.live.items (place_of c.self.inside.names.items c.args.cohort) c.index.result.now =
    c.index.ensures ∙ ap (λ (i : ℕ). slice_index_or c.self.inside.live.items i c.index.result.now) at in
    let less = place_within c.self.inside.rows.items _ c.self.inside.names.items c.self.inside.live.items c.self.invariant.2 c.args.cohort member c.index.result.now is in
    let len = c.self.inside.rows.ok.0 in
    omega (arith, less, len)

members : (c : goal.After-index-2) → ids_seen c.index-2.result.now.members ≡ ids_in (c.args.cohort ∷ []) 0 c.args.self.now.kept.sealed
members c =
    let member : has_name c.self.inside.names.items c.args.cohort ≡ true =
    ap (λ (names : List ℕ). has_name names c.args.cohort)
    (c.self.invariant.2.names_are ∙ sym (names_same (sealed_in c.self.inside.stamps.items c.self.inside.rows.items c.self.inside.firsts.items)) ∙ ap (λ (h : Held). cohorts_in h.kept.sealed) c.self.view_is) ∙ c.requires in
    let at = c.search-at.ensures ∙ ap (λ (names : List ℕ). place_of names c.args.cohort) c.as_slice.ensures.value in
    let is : c.index.result.now ≡ slice_index_or c.self.inside.live.items (place_of c.self.inside.names.items c.args.cohort) c.index.result.now =
    c.index.ensures ∙ ap (λ (i : ℕ). slice_index_or c.self.inside.live.items i c.index.result.now) at in
    members_are c.self.inside.rows.items _ c.self.inside.names.items c.self.inside.live.items c.self.invariant.2 c.args.cohort member c.index.result.now c.index-2.result.now is c.index-2.ensures c.self.invariant.0.indexed.live
    ∙ sym (ids_same (c.args.cohort ∷ []) 0 (sealed_in c.self.inside.stamps.items c.self.inside.rows.items c.self.inside.firsts.items))
    ∙ ap (λ (h : Held). ids_in (c.args.cohort ∷ []) 0 h.kept.sealed) c.self.view_is

pub returns-clause-members : goal.returns-clause-members
returns-clause-members c = members c

pub returns-clause-below : goal.returns-clause-below
returns-clause-below c =
    let many : length c.args.self.now.kept.sealed ≡ length c.self.inside.firsts.items =
    ap (λ (h : Held). length h.kept.sealed) (sym c.self.view_is) ∙ sealed_length (rows_seen c.self.inside.stamps.items c.self.inside.rows.items) 0 c.self.inside.firsts.items in
    let few = c.self.invariant.0.few in
    subst (AllByRecursion (λ id. id < 65536)) (sym (members c)) (ids_below (c.args.cohort ∷ []) 65536 0 c.args.self.now.kept.sealed (omega (arith, many, few)))

use Rattle.std.proofs.Common.{arith, ◌≡◌, ℕ, List, Some, map, sym, ap, subst, ◌∙◌}
use Rattle.std.specs.Prelude.{slice_get}
use Rattle.std.proofs.lemmas.Option.{slice_get_within, get_or_from_slice_get}
use Rattle.archive_chain.specs.Kept.{cohort_of, cohorts_in, has_name}
use Rattle.archive_chain.specs.Held.{Held}
use Rattle.archive_chain.specs.InsideTable.{Rises, sealed_in, bones_of, plain_of}
use Rattle.archive_chain.specs.InsidePieces.{IsAt}
use Rattle.archive_chain.proofs.Listing.{names_same, names_rise}
use Rattle.archive_chain.proofs.Finding.{at_named, open_there, row_at}
use Rattle.archive_chain.proofs.archive.Archive.row_of.Goals as goal

pub find-requires : goal.find-requires
find-requires c = record {
  rising = subst Rises (sym (c.as_slice.ensures.value ∙ c.self.invariant.2.names_are)) (names_rise (map cohort_of (sealed_in c.self.inside.stamps.items c.self.inside.rows.items c.self.inside.firsts.items)));
}

pub index-requires : goal.index-requires
index-requires c =
    let at : slice_get c.self.inside.names.items c.in-Some.at ≡ Some c.args.cohort = sym (ap (λ (xs : List ℕ). slice_get xs c.in-Some.at) c.as_slice.ensures.value) ∙ c.in-Some.ensures in
    let got = open_there (map bones_of c.self.inside.rows.items) c.self.inside.live.items c.self.inside.names.items c.in-Some.at c.args.cohort c.self.invariant.2.are_open at in
    let less = slice_get_within c.self.inside.live.items c.in-Some.at got.0 got.1 in
    let len = c.self.inside.live.ok.0 in
    omega (arith, less, len)

pub returns-in-Some : goal.returns-in-Some
returns-in-Some c =
    let names = c.as_slice.ensures.value ∙ c.self.invariant.2.names_are ∙ sym (names_same (sealed_in c.self.inside.stamps.items c.self.inside.rows.items c.self.inside.firsts.items))
    ∙ ap (λ (h : Held). cohorts_in h.kept.sealed) c.self.view_is in
    let at : slice_get c.self.inside.names.items c.in-Some.at ≡ Some c.args.cohort = sym (ap (λ (xs : List ℕ). slice_get xs c.in-Some.at) c.as_slice.ensures.value) ∙ c.in-Some.ensures in
    let got = open_there (map bones_of c.self.inside.rows.items) c.self.inside.live.items c.self.inside.names.items c.in-Some.at c.args.cohort c.self.invariant.2.are_open at in
    let same : got.0 ≡ c.index.result.now = sym (get_or_from_slice_get c.self.inside.live.items c.in-Some.at got.0 c.index.result.now got.1) ∙ sym c.index.ensures in
    let here : IsAt (map plain_of c.self.inside.rows.items) c.index.result.now c.args.cohort = subst (λ (p : ℕ). IsAt (map plain_of c.self.inside.rows.items) p c.args.cohort) same (row_at c.self.inside.rows.items got.0 c.args.cohort got.2) in record {
      named = sym (ap (λ (xs : List ℕ). has_name xs c.args.cohort) names) ∙ at_named c.as_slice.result.now c.args.cohort c.in-Some.at c.in-Some.ensures;
      at = subst (λ (h : Held). IsAt h.room.table c.index.result.now c.args.cohort) c.self.view_is here;
    }

pub returns-in-None : goal.returns-in-None
returns-in-None c =
    let names = c.as_slice.ensures.value ∙ c.self.invariant.2.names_are ∙ sym (names_same (sealed_in c.self.inside.stamps.items c.self.inside.rows.items c.self.inside.firsts.items))
    ∙ ap (λ (h : Held). cohorts_in h.kept.sealed) c.self.view_is in
    sym (ap (λ (xs : List ℕ). has_name xs c.args.cohort) names) ∙ c.in-None.ensures

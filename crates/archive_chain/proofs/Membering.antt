-- The groups of a cohort are the members of its row.
use Rattle.std.proofs.Common.{◌≡◌, ℕ, zero, suc, ◌<◌, true, List, [], ◌∷◌, length, map, refl, sym, ap, subst, ◌∙◌, arith}
use Rattle.std.specs.Prelude.{slice_index_or}
use Rattle.std.specs.List.{AllByRecursion}
use Rattle.std.proofs.lemmas.Option.{slice_get_read}
use Rattle.archive_chain.specs.Kept.{has_name, place_of}
use Rattle.archive_chain.specs.declared.row.Row.{Row}
use Rattle.archive_chain.specs.InsideIndex.{Bones, ids_by, IsLive}
use Rattle.archive_chain.specs.InsideTable.{ids_seen, bones_of}
use Rattle.archive_chain.specs.InsideListed.{IsOpen, IsListed}
use Rattle.archive_chain.proofs.Indexing.{some_is, got_map, got_within, all_at}
use Rattle.archive_chain.proofs.Listing.{open_length, open_at}
use Rattle.archive_chain.proofs.Places.{stands}

any_default : (xs : List ℕ) (i d e : ℕ) → i < length xs → slice_index_or xs i d ≡ slice_index_or xs i e
any_default [] i d e less = absurd (omega (arith, less))
any_default (x ∷ xs) zero d e less = refl
any_default (x ∷ xs) (suc i) d e less = any_default xs i d e (omega (arith, less))

module _ (rows : List Row) (cohorts names live : List ℕ) (listed : IsListed (map bones_of rows) cohorts names live) (cohort : ℕ) (member : has_name names cohort ≡ true) where
  pub at_within : place_of names cohort < length live
  at_within =
      let s = (stands names cohort member).within in
      let same = open_length (map bones_of rows) live names listed.are_open in
      omega (arith, s, same)

  here : (place : ℕ) → place ≡ slice_index_or live (place_of names cohort) place → IsOpen (map bones_of rows) place cohort
  here place is =
      let s = stands names cohort member in
      let found = open_at (map bones_of rows) live names (place_of names cohort) listed.are_open s.within in
      let same : slice_index_or live (place_of names cohort) 0 ≡ place = any_default live (place_of names cohort) 0 place at_within ∙ sym is in
      subst (λ (n : ℕ). IsOpen (map bones_of rows) place n) s.there (subst (λ (p : ℕ). IsOpen (map bones_of rows) p (slice_index_or names (place_of names cohort) 0)) same found)

  pub place_within : (place : ℕ) → place ≡ slice_index_or live (place_of names cohort) place → place < length rows
  place_within place is =
      let open_ = here place is in
      let row = got_map bones_of rows place open_.bones open_.there in
      got_within rows place row.0 row.1

  pub members_are : (place : ℕ) (row : Row) → place ≡ slice_index_or live (place_of names cohort) place → row ≡ slice_index_or rows place row → AllByRecursion (IsLive cohorts) (map bones_of rows)
      → ids_seen row.members ≡ ids_by (cohort ∷ []) 0 cohorts
  members_are place row is at all =
      let open_ = here place is in
      let found = got_map bones_of rows place open_.bones open_.there in
      let there = slice_get_read rows (length rows) place row refl (place_within place is) at in
      let same : found.0 ≡ row = some_is found.0 row (sym found.1 ∙ there) in
      let bones : bones_of row ≡ open_.bones = ap bones_of (sym same) ∙ sym found.2 in
      ap (λ (b : Bones). b.members) bones ∙ all_at (IsLive cohorts) (map bones_of rows) place open_.bones all open_.there open_.open_
      ∙ ap (λ (n : ℕ). ids_by (n ∷ []) 0 cohorts) open_.stamp

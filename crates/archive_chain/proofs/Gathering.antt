-- What is gathered cohort by cohort.
use Rattle.std.proofs.Common.{◌≡◌, ℕ, ◌+◌, ◌<◌, ◌≤◌, Bool, true, false, List, [], ◌∷◌, ◌++◌, length, drop, get_or, sym, ap, subst, ◌∙◌, arith, append_assoc, append-nil}
use Rattle.std.specs.Prelude.{if◌then◌else◌}
use Rattle.std.proofs.lemmas.List.{drop_more, drop_all}
use Rattle.archive_chain.specs.Kept.{Cover, has_name, ids_in}
use Rattle.archive_chain.specs.Held.{Plain}
use Rattle.archive_chain.specs.declared.row.Longer.{Longer}
use Rattle.archive_chain.specs.InsideRows.{joined}
use Rattle.archive_chain.specs.InsidePieces.{IsAt, AreAt, IsAdded, AreAdded, staying}

pub one_at : (table : List Plain) (places names : List ℕ) (place name : ℕ) → AreAt table places names → IsAt table place name → AreAt table (places ++ place ∷ []) (names ++ name ∷ [])
one_at table [] [] place name all one = (one, tt)
one_at table [] (n ∷ names) place name all one = absurd all
one_at table (p ∷ places) [] place name all one = absurd all
one_at table (p ∷ places) (n ∷ names) place name all one = (all.0, one_at table places names place name all.1 one)

pub one_added : (table : List Plain) (entry at : ℕ) (longer : List Longer) (names : List ℕ) (l : Longer) (name : ℕ) → AreAdded table entry at longer names → IsAdded table entry (at + length names) l name
    → AreAdded table entry at (longer ++ l ∷ []) (names ++ name ∷ [])
one_added table entry at [] [] l name all one = let here : at + 0 ≡ at = omega arith in (subst (λ (p : ℕ). IsAdded table entry p l name) here one, tt)
one_added table entry at [] (n ∷ names) l name all one = absurd all
one_added table entry at (m ∷ longer) [] l name all one = absurd all
one_added table entry at (m ∷ longer) (n ∷ names) l name all one =
    let moved : at + length (n ∷ names) ≡ (at + 1) + length names = omega arith in
    (all.0, one_added table entry (at + 1) longer names l name all.1 (subst (λ (p : ℕ). IsAdded table entry p l name) moved one))

pub one_joined : (names : List ℕ) (name : ℕ) (groups : List (List Cover)) → joined (names ++ name ∷ []) groups ≡ joined names groups ++ ids_in (name ∷ []) 0 groups
one_joined [] name groups = append-nil (ids_in (name ∷ []) 0 groups)
one_joined (n ∷ names) name groups =
    ap (λ (l : List ℕ). ids_in (n ∷ []) 0 groups ++ l) (one_joined names name groups)
    ∙ sym (append_assoc (ids_in (n ∷ []) 0 groups) (joined names groups) (ids_in (name ∷ []) 0 groups))

-- ---- what stays

module _ (cohorts : List ℕ) where
  pub stays_one : (name item : ℕ) (names items : List ℕ) → has_name cohorts name ≡ false → staying cohorts (name ∷ names) (item ∷ items) ≡ item ∷ staying cohorts names items
  stays_one name item names items h = ap (λ (b : Bool). if b then staying cohorts names items else item ∷ staying cohorts names items) h

  pub goes_one : (name item : ℕ) (names items : List ℕ) → has_name cohorts name ≡ true → staying cohorts (name ∷ names) (item ∷ items) ≡ staying cohorts names items
  goes_one name item names items h = ap (λ (b : Bool). if b then staying cohorts names items else item ∷ staying cohorts names items) h

  -- one name further in the lists
  pub stay_push : (names items done all : List ℕ) (at : ℕ) → at < length names → length items ≡ length names → has_name cohorts (get_or names at 0) ≡ false
      → done ++ staying cohorts (drop at names) (drop at items) ≡ all → (done ++ get_or items at 0 ∷ []) ++ staying cohorts (drop (at + 1) names) (drop (at + 1) items) ≡ all
  stay_push names items done all at less many stays so_far =
      let left : List ℕ = drop (at + 1) names in
      let rest : List ℕ = drop (at + 1) items in
      let name : ℕ = get_or names at 0 in
      let item : ℕ = get_or items at 0 in
      let names_are : drop at names ≡ name ∷ left = drop_more names at 0 less in
      let items_are : drop at items ≡ item ∷ rest = drop_more items at 0 (omega (arith, less, many)) in
      append_assoc done (item ∷ []) (staying cohorts left rest)
      ∙ ap (λ (l : List ℕ). done ++ l) (sym (stays_one name item left rest stays))
      ∙ sym (λ i. done ++ staying cohorts (names_are i) (items_are i)) ∙ so_far

  pub stay_skip : (names items done all : List ℕ) (at : ℕ) → at < length names → length items ≡ length names → has_name cohorts (get_or names at 0) ≡ true
      → done ++ staying cohorts (drop at names) (drop at items) ≡ all → done ++ staying cohorts (drop (at + 1) names) (drop (at + 1) items) ≡ all
  stay_skip names items done all at less many goes so_far =
      let left : List ℕ = drop (at + 1) names in
      let rest : List ℕ = drop (at + 1) items in
      let name : ℕ = get_or names at 0 in
      let item : ℕ = get_or items at 0 in
      let names_are : drop at names ≡ name ∷ left = drop_more names at 0 less in
      let items_are : drop at items ≡ item ∷ rest = drop_more items at 0 (omega (arith, less, many)) in
      ap (λ (l : List ℕ). done ++ l) (sym (goes_one name item left rest goes))
      ∙ sym (λ i. done ++ staying cohorts (names_are i) (items_are i)) ∙ so_far

  pub stay_end : (names items done all : List ℕ) (at new : ℕ) → length names ≤ at → done ++ staying cohorts (drop at names) (drop at items) ≡ all → done ++ new ∷ [] ≡ all ++ new ∷ []
  stay_end names items done all at new le so_far =
      let none : drop at names ≡ [] = drop_all at names le in
      ap (λ (l : List ℕ). l ++ new ∷ []) (sym (append-nil done) ∙ ap (λ (l : List ℕ). done ++ staying cohorts l (drop at items)) (sym none) ∙ so_far)

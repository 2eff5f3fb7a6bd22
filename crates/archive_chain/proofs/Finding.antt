-- Where a number stands in a list that rises, and what the row of a cohort is.
use Rattle.std.proofs.Common.{◌≡◌, ℕ, zero, suc, ◌<◌, ◌≤◌, Bool, true, false, List, [], ◌∷◌, length, map, Option, Some, None, Result, Ok, Err, get_or, refl, sym, ap, subst, ◌∙◌, arith}
use Rattle.std.specs.Prelude.{◌==◌, ◌||◌, MatchOption, is_some, nat_lt, slice_get}
use Rattle.std.specs.Result.{result_ok}
use Rattle.std.specs.Ordering.{nat_cmp}
use Rattle.std.specs.List.Sorted.{IsBinarySearchResult}
use Rattle.std.proofs.lemmas.Bool.{ltb-true, ltb-false, eq-eqb}
use Rattle.std.proofs.lemmas.List.Sorted.{searched}
use Rattle.std.proofs.lemmas.Option.{slice_get-get_or, slice_get_within, get_or_from_slice_get}
use Rattle.archive_chain.specs.Kept.{has_name, place_of}
use Rattle.archive_chain.specs.declared.row.Row.{Row}
use Rattle.archive_chain.specs.Held.{Plain}
use Rattle.archive_chain.specs.InsideIndex.{Bones}
use Rattle.archive_chain.specs.InsideListed.{IsOpen, AreOpen}
use Rattle.archive_chain.specs.InsidePieces.{IsAt}
use Rattle.archive_chain.specs.InsideTable.{Rises, plain_of, bones_of}
use Rattle.archive_chain.proofs.RowsRenewing.{by_test}
use Rattle.archive_chain.proofs.Indexing.{none_some, some_is, got_map}
use Rattle.archive_chain.proofs.Walking.{get_map}
use Rattle.archive_chain.proofs.Places.{stands, rises_at}

-- ---- in a list

up : (xs : List ℕ) → Rises xs → (i j : ℕ) → i ≤ j → j < length xs → get_or xs i 0 ≤ get_or xs j 0
up xs rises i j le less =
    by_test (nat_lt i j)
    (λ t. let h = rises_at xs i j rises (ltb-true i j t) less in omega (arith, h))
    (λ f. let not_less = ltb-false i j f in let same : i ≡ j = omega (arith, le, not_less) in let h = ap (λ (n : ℕ). get_or xs n 0) same in omega (arith, h))

-- where the search ends at this place, it isn't there
absent : (xs : List ℕ) (x i : ℕ) → ((k : ℕ) → k < i → get_or xs k 0 < x) → ((k : ℕ) → i ≤ k → k < length xs → x < get_or xs k 0) → has_name xs x ≡ false
absent xs x i below above =
    by_test (has_name xs x)
    (λ t.
    let s = stands xs x t in
    let within = s.within in
    let there = s.there in
    absurd (by_test (nat_lt (place_of xs x) i)
    (λ l. let h = below (place_of xs x) (ltb-true (place_of xs x) i l) in omega (arith, h, there))
    (λ l. let h = above (place_of xs x) (ltb-false (place_of xs x) i l) within in omega (arith, h, there))))
    (λ f. f)

pub found : (xs : List ℕ) (x : ℕ) (r : Result ℕ ℕ) → Rises xs → IsBinarySearchResult (λ y. nat_cmp y x) xs r → MatchOption (result_ok r) (has_name xs x ≡ false) (λ place. slice_get xs place ≡ Some x)
found xs x (Ok i) rises h =
    let s = searched xs x (Ok i) h (up xs rises) in
    slice_get-get_or xs i 0 s.0 ∙ ap (λ (n : ℕ). Some n) s.1
found xs x (Err i) rises h =
    let s = searched xs x (Err i) h (up xs rises) in
    absent xs x i s.1 s.2

or_true : (a : Bool) → (a || true) ≡ true
or_true true = refl
or_true false = refl

pub at_named : (xs : List ℕ) (x i : ℕ) → slice_get xs i ≡ Some x → has_name xs x ≡ true
at_named [] x i e = absurd (none_some x e)
at_named (y ∷ xs) x zero e = ap (λ (b : Bool). b || has_name xs x) (eq-eqb y x (some_is y x e))
at_named (y ∷ xs) x (suc i) e = ap (λ (b : Bool). (y == x) || b) (at_named xs x i e) ∙ or_true (y == x)

-- what the search says of a name
pub none_named : (xs : List ℕ) (x : ℕ) (o : Option ℕ) → MatchOption o (has_name xs x ≡ false) (λ place. slice_get xs place ≡ Some x) → is_some o ≡ false → has_name xs x ≡ false
none_named xs x None h e = h
none_named xs x (Some i) h e = cc

pub some_named : (xs : List ℕ) (x : ℕ) (o : Option ℕ) → MatchOption o (has_name xs x ≡ false) (λ place. slice_get xs place ≡ Some x) → is_some o ≡ true → has_name xs x ≡ true
some_named xs x None h e = cc
some_named xs x (Some i) h e = at_named xs x i h

-- ---- the row of a cohort

pub open_there : (table : List Bones) (live names : List ℕ) (i name : ℕ) → AreOpen table live names → slice_get names i ≡ Some name → (place : ℕ) × (slice_get live i ≡ Some place) × IsOpen table place name
open_there table [] [] i name all e = absurd (none_some name e)
open_there table [] (n ∷ names) i name all e = absurd all
open_there table (p ∷ live) [] i name all e = absurd all
open_there table (p ∷ live) (n ∷ names) zero name all e = (p, refl, subst (IsOpen table p) (some_is n name e) all.0)
open_there table (p ∷ live) (n ∷ names) (suc i) name all e = open_there table live names i name all.1 e

pub row_at : (rows : List Row) (place name : ℕ) → IsOpen (map bones_of rows) place name → IsAt (map plain_of rows) place name
row_at rows place name o =
    let row = got_map bones_of rows place o.bones o.there in record {
      row = plain_of row.0;
      there = get_map plain_of rows place row.0 row.1;
      entry = ap (λ (b : Bones). b.stamp) (sym row.2) ∙ o.stamp;
      open_ = ap (λ (b : Bones). b.next) (sym row.2) ∙ o.open_;
    }

-- the row that stands there
pub record IsRowAt (rows : List Row) (place name : ℕ) (row : Row) : Type 0 where
  pub within : place < length rows
  pub there : slice_get rows place ≡ Some row
  pub entry : row.stamp ≡ name
  pub open_ : row.next ≡ None

pub got_row : (rows : List Row) (place name : ℕ) (row : Row) → IsAt (map plain_of rows) place name → row ≡ get_or rows place row → IsRowAt rows place name row
got_row rows place name row at is =
    let got = got_map plain_of rows place at.row at.there in
    let same : got.0 ≡ row = sym (get_or_from_slice_get rows place got.0 row got.1) ∙ sym is in
    let plain : at.row ≡ plain_of row = got.2 ∙ ap plain_of same in record {
      within = slice_get_within rows place got.0 got.1;
      there = got.1 ∙ ap (λ (r : Row). Some r) same;
      entry = ap (λ (p : Plain). p.stamp) (sym plain) ∙ at.entry;
      open_ = ap (λ (p : Plain). p.next) (sym plain) ∙ at.open_;
    }

pub row_within : (rows : List Row) (place name : ℕ) → IsAt (map plain_of rows) place name → place < length rows
row_within rows place name at = let got = got_map plain_of rows place at.row at.there in slice_get_within rows place got.0 got.1

-- the row as contracts see it
pub plain_at : (rows : List Row) (table : List Plain) (place name : ℕ) (row : Row) (at : IsAt table place name) → map plain_of rows ≡ table → row ≡ get_or rows place row → at.row ≡ plain_of row
plain_at rows table place name row at same is =
    let there : slice_get (map plain_of rows) place ≡ Some at.row = ap (λ (t : List Plain). slice_get t place) same ∙ at.there in
    let got = got_map plain_of rows place at.row there in
    got.2 ∙ ap plain_of (sym (get_or_from_slice_get rows place got.0 row got.1) ∙ sym is)

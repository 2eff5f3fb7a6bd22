-- The place of a number in a list that rises.
use Rattle.std.proofs.Common.{◌≡◌, ℕ, zero, suc, ◌+◌, ◌-◌, ◌<◌, ◌≤◌, Bool, true, List, [], ◌∷◌, length, sym, ap, ◌∙◌, arith}
use Rattle.std.specs.Prelude.{◌==◌, ◌||◌, slice_index_or, if◌then◌else◌}
use Rattle.std.specs.List.{AllByRecursion, range_with_len}
use Rattle.std.proofs.lemmas.Bool.{eqb-true}
use Rattle.archive_chain.specs.Kept.{has_name, place_of}
use Rattle.archive_chain.proofs.RowsRenewing.{by_test}
use Rattle.archive_chain.specs.InsideReadable.{Rises}

pub record Stands (xs : List ℕ) (x : ℕ) : Type 0 where
  pub within : place_of xs x < length xs
  pub there : slice_index_or xs (place_of xs x) 0 ≡ x

pub stands : (xs : List ℕ) (x : ℕ) → has_name xs x ≡ true → Stands xs x
stands [] x h = absurd cc
stands (y ∷ xs) x h =
    by_test (y == x)
    (λ e.
    let here : place_of (y ∷ xs) x ≡ 0 = ap (λ (b : Bool). if b then 0 else suc (place_of xs x)) e in record {
      within = omega (arith, here);
      there = ap (λ (n : ℕ). slice_index_or (y ∷ xs) n 0) here ∙ eqb-true y x e;
    })
    (λ e.
    let rest = stands xs x (sym (ap (λ (b : Bool). b || has_name xs x) e) ∙ h) in
    let here : place_of (y ∷ xs) x ≡ suc (place_of xs x) = ap (λ (b : Bool). if b then 0 else suc (place_of xs x)) e in
    let less = rest.within in record {
      within = omega (arith, here, less);
      there = ap (λ (n : ℕ). slice_index_or (y ∷ xs) n 0) here ∙ rest.there;
    })

above_at : (low j : ℕ) (xs : List ℕ) → AllByRecursion (λ y. low < y) xs → j < length xs → low < slice_index_or xs j 0
above_at low j [] h less = absurd (omega (arith, less))
above_at low zero (x ∷ xs) h less = h.0
above_at low (suc j) (x ∷ xs) h less = above_at low j xs h.1 (omega (arith, less))

pub rises_at : (xs : List ℕ) (i j : ℕ) → Rises xs → i < j → j < length xs → slice_index_or xs i 0 < slice_index_or xs j 0
rises_at [] i j h less within = absurd (omega (arith, within))
rises_at (x ∷ xs) i zero h less within = absurd (omega (arith, less))
rises_at (x ∷ xs) zero (suc j) h less within = above_at x j xs h.0 (omega (arith, within))
rises_at (x ∷ xs) (suc i) (suc j) h less within = rises_at xs i j h.1 (omega (arith, less)) (omega (arith, within))

pub not_after : (xs : List ℕ) (x i : ℕ) → Rises xs → has_name xs x ≡ true → i < length xs → slice_index_or xs i 0 ≤ x → i ≤ place_of xs x
not_after xs x i rises member within le =
    let s = stands xs x member in
    let there = s.there in
    let no : place_of xs x < i → ⊥ = λ less. let h = rises_at xs (place_of xs x) i rises less within in omega (arith, h, there, le) in
    omega (arith, no)

pub not_before : (xs : List ℕ) (x i : ℕ) → Rises xs → has_name xs x ≡ true → i < length xs → x < slice_index_or xs i 0 → place_of xs x < i
not_before xs x i rises member within less =
    let s = stands xs x member in
    let there = s.there in
    let in_ = s.within in
    let same : i ≡ place_of xs x → ⊥ = λ e. let h = ap (λ (n : ℕ). slice_index_or xs n 0) e in omega (arith, h, there, less) in
    let no : i < place_of xs x → ⊥ = λ below. let h = rises_at xs i (place_of xs x) rises below in_ in omega (arith, h, there, less) in
    omega (arith, no, same)

pub place_in_run : (first count x : ℕ) → has_name (range_with_len first count) x ≡ true → (first ≤ x) × (place_of (range_with_len first count) x ≡ x - first)
place_in_run first zero x h = absurd cc
place_in_run first (suc count) x h =
    by_test (first == x)
    (λ e. let same = eqb-true first x e in (omega (arith, same), ap (λ (b : Bool). if b then 0 else suc (place_of (range_with_len (first + 1) count) x)) e ∙ omega (arith, same)))
    (λ e.
    let rest = place_in_run (first + 1) count x (sym (ap (λ (b : Bool). b || has_name (range_with_len (first + 1) count) x) e) ∙ h) in
    let low = rest.0 in let place = rest.1 in
    (omega (arith, low), ap (λ (b : Bool). if b then 0 else suc (place_of (range_with_len (first + 1) count) x)) e ∙ omega (arith, low, place)))

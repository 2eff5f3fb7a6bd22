-- The groups of some cohorts, cohort by cohort and then sorted, are their groups in order.
use Rattle.std.proofs.Common.{◌≡◌, ℕ, suc, ◌+◌, ◌<◌, ◌≤◌, Bool, true, false, List, [], ◌∷◌, ◌++◌, length, refl, sym, ap, subst, ◌∙◌, arith}
use Rattle.std.specs.Prelude.{⊤, ◌==◌, ◌||◌, slice_index_or, IsPermutation, cond, sum_by, if◌then◌else◌}
use Rattle.std.specs.List.{AllByRecursion}
use Rattle.std.specs.List.Sorted.{IsNonDecreasing}
use Rattle.std.proofs.lemmas.Bool.{eqb-true, eq-eqb, ne_eqb}
use Rattle.std.proofs.lemmas.List.Sums.{sum_by-cons, sum_by-append}
use Rattle.std.proofs.lemmas.List.Sorted.{sum_by-IsPermutation}
use Rattle.archive_chain.specs.Kept.{Cover, cohort_of, has_name, is_in, ids_in}
use Rattle.archive_chain.specs.InsideRows.{joined, AreApart}
use Rattle.archive_chain.proofs.RowsRenewing.{by_test}

-- ---- how often a number stands in a list

one : ℕ → ℕ → ℕ
one x y = cond (y == x) 1 0

times : ℕ → List ℕ → ℕ
times x xs = sum_by (one x) xs

times_more : (x y : ℕ) (xs : List ℕ) → times x (y ∷ xs) ≡ one x y + times x xs
unfolding times
times_more x y xs = sum_by-cons (one x) y xs

times_none : (x : ℕ) → times x [] ≡ 0
unfolding times
times_none x = refl

one_same : (x : ℕ) → one x x ≡ 1
unfolding one
one_same x = ap (λ (b : Bool). cond b 1 0) (eq-eqb x x refl)

one_other : (x y : ℕ) → (y ≡ x → ⊥) → one x y ≡ 0
unfolding one
one_other x y apart = ap (λ (b : Bool). cond b 1 0) (ne_eqb y x apart)

-- ---- lists that rise

Rising : List ℕ → Type 0
Rising [] = ⊤
Rising (x ∷ xs) = AllByRecursion (λ y. x ≤ y) xs × Rising xs

absent : (x : ℕ) (ys : List ℕ) → AllByRecursion (λ y. x < y) ys → times x ys ≡ 0
absent x [] above = times_none x
absent x (y ∷ ys) above =
    let rest = absent x ys above.1 in
    let none = one_other x y (λ e. omega (arith, e, above.0)) in
    omega (arith, times_more x y ys, rest, none)

above : (x y : ℕ) (ys : List ℕ) → x < y → AllByRecursion (λ z. y ≤ z) ys → AllByRecursion (λ z. x < z) ys
above x y [] less all = tt
above x y (z ∷ ys) less all = (omega (arith, less, all.0), above x y ys less all.1)

no_less : (x y : ℕ) (xs ys : List ℕ) → x < y → AllByRecursion (λ z. y ≤ z) ys → times x (x ∷ xs) ≡ times x (y ∷ ys) → ⊥
no_less x y xs ys less all same =
    let none = absent x (y ∷ ys) (less, above x y ys less all) in
    omega (arith, same, none, times_more x x xs, one_same x)

rise_alike : (xs ys : List ℕ) → Rising xs → Rising ys → ((x : ℕ) → times x xs ≡ times x ys) → xs ≡ ys
unfolding Rising
rise_alike [] [] p q same = refl
rise_alike [] (y ∷ ys) p q same = let h = same y in absurd (omega (arith, h, times_none y, times_more y y ys, one_same y))
rise_alike (x ∷ xs) [] p q same = let h = same x in absurd (omega (arith, h, times_none x, times_more x x xs, one_same x))
rise_alike (x ∷ xs) (y ∷ ys) p q same =
    let low : x < y → ⊥ = λ less. no_less x y xs ys less q.0 (same x) in
    let high : y < x → ⊥ = λ less. no_less y x ys xs less p.0 (sym (same y)) in
    let equal : x ≡ y = omega (arith, low, high) in
    let rest : (z : ℕ) → times z xs ≡ times z ys = λ z.
    let h = same z in
    let ones : one z x ≡ one z y = ap (one z) equal in
    omega (arith, h, times_more z x xs, times_more z y ys, ones) in
    (λ i. equal i ∷ rise_alike xs ys p.1 q.1 rest i)

rising_rest : (x : ℕ) (xs : List ℕ) → IsNonDecreasing (x ∷ xs) → IsNonDecreasing xs
rising_rest x xs h i j d le lt = h (suc i) (suc j) d (omega (arith, le)) (omega (arith, lt))

rising_all : (x : ℕ) (xs : List ℕ) → ((j : ℕ) → j < length xs → x ≤ slice_index_or xs j 0) → AllByRecursion (λ y. x ≤ y) xs
rising_all x [] h = tt
rising_all x (y ∷ xs) h = (h 0 (omega arith), rising_all x xs (λ j lt. h (suc j) (omega (arith, lt))))

rising : (xs : List ℕ) → IsNonDecreasing xs → Rising xs
unfolding Rising
rising [] h = tt
rising (x ∷ xs) h = (rising_all x xs (λ j lt. h 0 (suc j) 0 (omega arith) (omega (arith, lt))), rising xs (rising_rest x xs h))

-- ---- the groups in order

ids_above : (named : List ℕ) (low id : ℕ) (groups : List (List Cover)) → low ≤ id → AllByRecursion (λ y. low ≤ y) (ids_in named id groups)
ids_above named low id [] le = tt
ids_above named low id (g ∷ groups) le =
    let rest = ids_above named low (id + 1) groups (omega (arith, le)) in
    by_test (is_in named g)
    (λ e. subst (λ (b : Bool). AllByRecursion (λ y. low ≤ y) (if b then id ∷ ids_in named (id + 1) groups else ids_in named (id + 1) groups)) (sym e) (le, rest))
    (λ e. subst (λ (b : Bool). AllByRecursion (λ y. low ≤ y) (if b then id ∷ ids_in named (id + 1) groups else ids_in named (id + 1) groups)) (sym e) rest)

ids_rise : (named : List ℕ) (id : ℕ) (groups : List (List Cover)) → Rising (ids_in named id groups)
unfolding Rising
ids_rise named id [] = tt
ids_rise named id (g ∷ groups) =
    let rest = ids_rise named (id + 1) groups in
    by_test (is_in named g)
    (λ e. subst (λ (b : Bool). Rising (if b then id ∷ ids_in named (id + 1) groups else ids_in named (id + 1) groups)) (sym e) (ids_above named id (id + 1) groups (omega arith), rest))
    (λ e. subst (λ (b : Bool). Rising (if b then id ∷ ids_in named (id + 1) groups else ids_in named (id + 1) groups)) (sym e) rest)

-- ---- one cohort more

step : (x : ℕ) (named : List ℕ) (id : ℕ) (g : List Cover) (groups : List (List Cover)) (b : Bool) → is_in named g ≡ b
    → times x (ids_in named id (g ∷ groups)) ≡ cond b (one x id) 0 + times x (ids_in named (id + 1) groups)
step x named id g groups true e =
    ap (λ (b : Bool). times x (if b then id ∷ ids_in named (id + 1) groups else ids_in named (id + 1) groups)) e ∙ times_more x id (ids_in named (id + 1) groups)
step x named id g groups false e =
    ap (λ (b : Bool). times x (if b then id ∷ ids_in named (id + 1) groups else ids_in named (id + 1) groups)) e ∙ omega arith

split : (x name : ℕ) (named : List ℕ) (id : ℕ) (groups : List (List Cover)) → has_name named name ≡ false
    → times x (ids_in (name ∷ named) id groups) ≡ times x (ids_in (name ∷ []) id groups) + times x (ids_in named id groups)
split x name named id [] apart = let h = times_none x in omega (arith, h)
split x name named id (g ∷ groups) apart =
    let rest = split x name named (id + 1) groups apart in
    by_test (name == cohort_of g)
    (λ e.
    let here : is_in (name ∷ named) g ≡ true = ap (λ (b : Bool). b || has_name named (cohort_of g)) e in
    let alone : is_in (name ∷ []) g ≡ true = ap (λ (b : Bool). b || false) e in
    let same : name ≡ cohort_of g = eqb-true name (cohort_of g) e in
    let other : is_in named g ≡ false = ap (has_name named) (sym same) ∙ apart in
    omega (arith, rest, step x (name ∷ named) id g groups true here, step x (name ∷ []) id g groups true alone, step x named id g groups false other))
    (λ e.
    let alone : is_in (name ∷ []) g ≡ false = ap (λ (b : Bool). b || false) e in
    let all : is_in (name ∷ named) g ≡ is_in named g = ap (λ (b : Bool). b || has_name named (cohort_of g)) e in
    by_test (is_in named g)
    (λ t. omega (arith, rest, step x (name ∷ named) id g groups true (all ∙ t), step x (name ∷ []) id g groups false alone, step x named id g groups true t))
    (λ t. omega (arith, rest, step x (name ∷ named) id g groups false (all ∙ t), step x (name ∷ []) id g groups false alone, step x named id g groups false t)))

none_named : (id : ℕ) (groups : List (List Cover)) → ids_in [] id groups ≡ []
none_named id [] = refl
none_named id (g ∷ groups) = none_named (id + 1) groups

joined_times : (x : ℕ) (named : List ℕ) (groups : List (List Cover)) → AreApart named → times x (joined named groups) ≡ times x (ids_in named 0 groups)
unfolding times
joined_times x [] groups apart = ap (times x) (sym (none_named 0 groups))
joined_times x (name ∷ named) groups apart =
    let rest = joined_times x named groups apart.1 in
    let both : times x (ids_in (name ∷ []) 0 groups ++ joined named groups) ≡ times x (ids_in (name ∷ []) 0 groups) + times x (joined named groups) =
    sum_by-append (one x) (ids_in (name ∷ []) 0 groups) (joined named groups) in
    omega (arith, rest, both, split x name named 0 groups apart.0)

pub sorted_members : (named : List ℕ) (groups : List (List Cover)) (all : List ℕ) → AreApart named → IsPermutation (joined named groups) all → IsNonDecreasing all → all ≡ ids_in named 0 groups
unfolding times
sorted_members named groups all apart moved up =
    rise_alike all (ids_in named 0 groups) (rising all up) (ids_rise named 0 groups)
    (λ x. sum_by-IsPermutation (one x) (joined named groups) all moved ∙ joined_times x named groups apart)

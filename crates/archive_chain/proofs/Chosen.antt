-- The cohorts that a renewal names: they rise, each has a group, and so there is a leaf.
use Rattle.std.proofs.Common.{◌≡◌, ℕ, ◌+◌, ◌<◌, Bool, true, false, List, [], ◌∷◌, length, map, Option, Some, None, refl, sym, ap, ◌∙◌, arith}
use Rattle.std.specs.Prelude.{◌==◌, ◌||◌, not, find, cond, if◌then◌else◌}
use Rattle.std.specs.Option.{option_map}
use Rattle.std.specs.List.{AllByRecursion, list_any}
use Rattle.std.proofs.lemmas.Bool.{eqb-true, ne_eqb}
use Rattle.std.proofs.lemmas.List.Sums.{sum_by-cons}
use Rattle.entry_codec.specs.Spelling.{AreAscending}
use Rattle.archive_chain.specs.Kept.{Cover, Kept, cohort_of, has_name, is_in, ids_in, count_in}
use Rattle.archive_chain.specs.Rules.{is_live, live_rule}
use Rattle.archive_chain.specs.declared.refusal.Refusal.TheVariants.{NotLive}
use Rattle.archive_chain.specs.InsideRows.{AreApart}
use Rattle.archive_chain.specs.InsideTable.{Rises}
use Rattle.archive_chain.proofs.RowsRenewing.{by_test}
use Rattle.archive_chain.proofs.Indexing.{none_some}

-- ---- they rise

over : (low high : ℕ) (xs : List ℕ) → low < high → AllByRecursion (λ y. high < y) xs → AllByRecursion (λ y. low < y) xs
over low high [] less all = tt
over low high (x ∷ xs) less all = (let h = all.0 in omega (arith, less, h), over low high xs less all.1)

pub ascending_rises : (xs : List ℕ) → AreAscending xs → Rises xs
ascending_rises [] up = tt
ascending_rises (x ∷ []) up = (tt, tt)
ascending_rises (x ∷ y ∷ xs) up =
    let rest = ascending_rises (y ∷ xs) up.1 in
    ((up.0, over x y xs up.0 rest.0), rest)

absent : (x : ℕ) (xs : List ℕ) → AllByRecursion (λ y. x < y) xs → has_name xs x ≡ false
absent x [] above = refl
absent x (y ∷ xs) above =
    let low = above.0 in
    ap (λ (b : Bool). b || has_name xs x) (ne_eqb y x (λ e. omega (arith, e, low))) ∙ absent x xs above.1

pub rises_apart : (xs : List ℕ) → Rises xs → AreApart xs
rises_apart [] up = tt
rises_apart (x ∷ xs) up = (absent x xs up.0, rises_apart xs up.1)

-- ---- each has a group

none_found : (test : ℕ → Bool) (xs : List ℕ) → find test xs ≡ None → AllByRecursion (λ x. test x ≡ false) xs
none_found test [] e = tt
none_found test (x ∷ xs) e =
    by_test (test x)
    (λ t. absurd (none_some x (sym e ∙ ap (λ (b : Bool). cond b (Some x) (find test xs)) t)))
    (λ f. (f, none_found test xs (sym (ap (λ (b : Bool). cond b (Some x) (find test xs)) f) ∙ e)))

turned : (b : Bool) → not b ≡ false → b ≡ true
turned true e = refl
turned false e = cc

all_turned : (test : ℕ → Bool) (xs : List ℕ) → AllByRecursion (λ x. not (test x) ≡ false) xs → AllByRecursion (λ x. test x ≡ true) xs
all_turned test [] h = tt
all_turned test (x ∷ xs) h = (turned (test x) h.0, all_turned test xs h.1)

none_mapped : (o : Option ℕ) → option_map NotLive o ≡ None → o ≡ None
none_mapped None e = refl
none_mapped (Some c) e = absurd (none_some (NotLive c) (sym e))

pub all_live : (k : Kept) (cohorts : List ℕ) → live_rule k cohorts ≡ None → AllByRecursion (λ c. is_live k c ≡ true) cohorts
all_live k cohorts e = all_turned (is_live k) cohorts (none_found (λ c. not (is_live k c)) cohorts (none_mapped (find (λ c. not (is_live k c)) cohorts) e))

pub live_named : (k : Kept) (cohorts : List ℕ) (c : ℕ) → AllByRecursion (λ x. is_live k x ≡ true) cohorts → has_name cohorts c ≡ true → is_live k c ≡ true
live_named k [] c all named = absurd cc
live_named k (x ∷ cohorts) c all named =
    by_test (x == c)
    (λ t. sym (ap (is_live k) (eqb-true x c t)) ∙ all.0)
    (λ f. live_named k cohorts c all.1 (sym (ap (λ (b : Bool). b || has_name cohorts c) f) ∙ named))

-- ---- so there is a leaf

pub count_ids : (names : List ℕ) (id : ℕ) (groups : List (List Cover)) → length (ids_in names id groups) ≡ count_in names groups
count_ids names id [] = refl
count_ids names id (g ∷ groups) =
    let rest = count_ids names (id + 1) groups in
    let more = sum_by-cons (λ (c : List Cover). cond (is_in names c) 1 0) g groups in
    by_test (is_in names g)
    (λ t.
    let one : ◌≡◌ {A = ℕ} (cond (is_in names g) 1 0) 1 = ap (λ (b : Bool). let n : ℕ = cond b 1 0 in n) t in
    ap (λ (b : Bool). length (if b then id ∷ ids_in names (id + 1) groups else ids_in names (id + 1) groups)) t ∙ omega (arith, rest, more, one))
    (λ f.
    let none : ◌≡◌ {A = ℕ} (cond (is_in names g) 1 0) 0 = ap (λ (b : Bool). let n : ℕ = cond b 1 0 in n) f in
    ap (λ (b : Bool). length (if b then id ∷ ids_in names (id + 1) groups else ids_in names (id + 1) groups)) f ∙ omega (arith, rest, more, none))

-- a group of one of these cohorts
pub any_live : (cohorts : List ℕ) (c : ℕ) (groups : List (List Cover)) → has_name cohorts c ≡ true → list_any (λ covers. cohort_of covers == c) groups ≡ true → list_any (has_name cohorts) (map cohort_of groups) ≡ true
any_live cohorts c [] named live = absurd cc
any_live cohorts c (g ∷ groups) named live =
    by_test (cohort_of g == c)
    (λ t. ap (λ (b : Bool). b || list_any (has_name cohorts) (map cohort_of groups)) (ap (has_name cohorts) (eqb-true (cohort_of g) c t) ∙ named))
    (λ f.
    let rest = any_live cohorts c groups named (sym (ap (λ (b : Bool). b || list_any (λ covers. cohort_of covers == c) groups) f) ∙ live) in
    by_test (has_name cohorts (cohort_of g))
    (λ t. ap (λ (b : Bool). b || list_any (has_name cohorts) (map cohort_of groups)) t)
    (λ e. ap (λ (b : Bool). b || list_any (has_name cohorts) (map cohort_of groups)) e ∙ rest))

pub some_ids : (cohorts : List ℕ) (id : ℕ) (groups : List (List Cover)) → list_any (has_name cohorts) (map cohort_of groups) ≡ true → 0 < length (ids_in cohorts id groups)
some_ids cohorts id [] any = absurd cc
some_ids cohorts id (g ∷ groups) any =
    by_test (is_in cohorts g)
    (λ t. let here : length (ids_in cohorts id (g ∷ groups)) ≡ length (id ∷ ids_in cohorts (id + 1) groups) = ap (λ (b : Bool). length (if b then id ∷ ids_in cohorts (id + 1) groups else ids_in cohorts (id + 1) groups)) t in omega (arith, here))
    (λ f.
    let rest = some_ids cohorts (id + 1) groups (sym (ap (λ (b : Bool). b || list_any (has_name cohorts) (map cohort_of groups)) f) ∙ any) in
    let here : length (ids_in cohorts id (g ∷ groups)) ≡ length (ids_in cohorts (id + 1) groups) = ap (λ (b : Bool). length (if b then id ∷ ids_in cohorts (id + 1) groups else ids_in cohorts (id + 1) groups)) f in omega (arith, here, rest))

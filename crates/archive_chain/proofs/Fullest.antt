-- The first full group of several cohorts is the least of theirs.
use Rattle.std.proofs.Common.{◌≡◌, ℕ, ◌+◌, ◌<◌, ◌≤◌, Bool, true, false, List, [], ◌∷◌, ◌++◌, length, Option, Some, None, refl, sym, ap, subst, ◌∙◌, arith}
use Rattle.std.specs.Prelude.{◌==◌, ◌||◌, ◌&&◌, nat_lt, nat_le, min, MatchOption, if◌then◌else◌}
use Rattle.std.proofs.lemmas.Bool.{eqb-true, eq-eqb, leb-true, leb-false}
use Rattle.std.specs.List.{list_any}
use Rattle.std.proofs.lemmas.List.Folds.{list_any-append}
use Rattle.archive_chain.specs.Kept.{Cover, cohort_of, is_in}
use Rattle.archive_chain.specs.Rules.{first_full}
use Rattle.archive_chain.specs.InsidePeak.{earlier}
use Rattle.archive_chain.specs.Kept.{cohorts_in, has_name}
use Rattle.archive_chain.specs.InsidePeak.{IsPeak, higher}
use Rattle.archive_chain.specs.InsideFull.{higher_of, IsPeakOf, IsPeakSoFar, full_by}
use Rattle.archive_chain.specs.declared.peak.Peak.{Peak}
use Rattle.archive_chain.proofs.RowsRenewing.{by_test}
use Rattle.archive_chain.proofs.Live.{named_live, or_none}
use Rattle.archive_chain.proofs.Peaks.{peak_full, peak_both}
use Rattle.archive_chain.proofs.Indexing.{none_some, some_is}

abbrev is_full : List ℕ → List Cover → Bool
is_full names g = is_in names g && nat_le 200 (length g)

full_at : (names : List ℕ) (id : ℕ) (g : List Cover) (groups : List (List Cover)) (b : Bool) → is_full names g ≡ b → first_full names id (g ∷ groups) ≡ (if b then Some id else first_full names (id + 1) groups)
full_at names id g groups b e = ap (λ (b : Bool). if b then Some id else first_full names (id + 1) groups) e

not_below : (names : List ℕ) (id : ℕ) (groups : List (List Cover)) (j : ℕ) → first_full names id groups ≡ Some j → id ≤ j
not_below names id [] j e = absurd (none_some j e)
not_below names id (g ∷ groups) j e =
    by_test (is_full names g)
    (λ t. let same : id ≡ j = some_is id j (sym (full_at names id g groups true t) ∙ e) in omega (arith, same))
    (λ f. let low = not_below names (id + 1) groups j (sym (full_at names id g groups false f) ∙ e) in omega (arith, low))

first_low : (id : ℕ) (o : Option ℕ) → ((j : ℕ) → o ≡ Some j → id ≤ j) → earlier (Some id) o ≡ Some id
first_low id None low = refl
first_low id (Some j) low = let le = low j refl in let least : min id j ≡ id = omega (arith, le) in ap (λ (n : ℕ). Some n) least

second_low : (id : ℕ) (o : Option ℕ) → ((j : ℕ) → o ≡ Some j → id ≤ j) → earlier o (Some id) ≡ Some id
second_low id None low = refl
second_low id (Some j) low = let le = low j refl in let least : min j id ≡ id = omega (arith, le) in ap (λ (n : ℕ). Some n) least

both_and : (a b f : Bool) → ((a || b) && f) ≡ ((a && f) || (b && f))
both_and true true true = refl
both_and true true false = refl
both_and true false true = refl
both_and true false false = refl
both_and false b f = refl

pub full_both : (names : List ℕ) (name id : ℕ) (groups : List (List Cover)) → first_full (names ++ name ∷ []) id groups ≡ earlier (first_full names id groups) (first_full (name ∷ []) id groups)
full_both names name id [] = refl
full_both names name id (g ∷ groups) =
    let both : is_full (names ++ name ∷ []) g ≡ (is_full names g || is_full (name ∷ []) g) =
    ap (λ (b : Bool). b && nat_le 200 (length g)) (list_any-append (λ other. other == cohort_of g) names (name ∷ [])) ∙ both_and (is_in names g) (is_in (name ∷ []) g) (nat_le 200 (length g)) in
    by_test (is_full names g)
    (λ t.
    let here : is_full (names ++ name ∷ []) g ≡ true = both ∙ ap (λ (b : Bool). b || is_full (name ∷ []) g) t in
    full_at (names ++ name ∷ []) id g groups true here
    ∙ sym (first_low id (first_full (name ∷ []) id (g ∷ groups)) (not_below (name ∷ []) id (g ∷ groups)))
    ∙ sym (ap (λ (o : Option ℕ). earlier o (first_full (name ∷ []) id (g ∷ groups))) (full_at names id g groups true t)))
    (λ f.
    by_test (is_full (name ∷ []) g)
    (λ t.
    let here : is_full (names ++ name ∷ []) g ≡ true = both ∙ (λ i. f i || t i) in
    full_at (names ++ name ∷ []) id g groups true here
    ∙ sym (second_low id (first_full names id (g ∷ groups)) (not_below names id (g ∷ groups)))
    ∙ sym (ap (earlier (first_full names id (g ∷ groups))) (full_at (name ∷ []) id g groups true t)))
    (λ e.
    let here : is_full (names ++ name ∷ []) g ≡ false = both ∙ (λ i. f i || e i) in
    full_at (names ++ name ∷ []) id g groups false here ∙ full_both names name (id + 1) groups
    ∙ sym (λ i. earlier (full_at names id g groups false f i) (full_at (name ∷ []) id g groups false e i))))

pub full_nothing : (id : ℕ) (groups : List (List Cover)) → first_full [] id groups ≡ None
full_nothing id [] = refl
full_nothing id (g ∷ groups) = full_nothing (id + 1) groups

-- ---- the peak of a cohort

pub peak_same : (P Q : ℕ → Type 0) (groups : List (List Cover)) (most least : ℕ) → ((c : ℕ) → P c → Q c) → ((c : ℕ) → Q c → P c) → IsPeak P groups most least → IsPeak Q groups most least
peak_same P Q groups most least to from p = record {
  group = p.group;
  there = p.there;
  named = to (cohort_of p.group) p.named;
  many = p.many;
  no_more = λ id g at h. p.no_more id g at (from (cohort_of g) h);
  first = λ id g at h same. p.first id g at (from (cohort_of g) h) same;
}

one_name : (name c : ℕ) → name ≡ c → has_name (name ∷ []) c ≡ true
one_name name c e = ap (λ (b : Bool). b || false) (eq-eqb name c e)

name_one : (name c : ℕ) → has_name (name ∷ []) c ≡ true → name ≡ c
name_one name c h =
    by_test (name == c)
    (λ t. eqb-true name c t)
    (λ f. absurd (let e = sym h ∙ ap (λ (b : Bool). b || false) f in cc))

none_full : (name id : ℕ) (groups : List (List Cover)) → list_any (λ covers. cohort_of covers == name) groups ≡ false → first_full (name ∷ []) id groups ≡ None
none_full name id [] e = refl
none_full name id (g ∷ groups) e =
    let parts = or_none (cohort_of g == name) (list_any (λ covers. cohort_of covers == name) groups) e in
    let apart : (name == cohort_of g) ≡ false =
    by_test (name == cohort_of g)
    (λ t. absurd (let other = eq-eqb (cohort_of g) name (sym (eqb-true name (cohort_of g) t)) in let f = sym other ∙ parts.0 in cc))
    (λ f. f) in
    full_at (name ∷ []) id g groups false (ap (λ (b : Bool). (b || false) && nat_le 200 (length g)) apart) ∙ none_full name (id + 1) groups parts.1

pub full_is : (groups : List (List Cover)) (name : ℕ) (o : Option Peak) → MatchOption o (has_name (cohorts_in groups) name ≡ false) (IsPeakOf groups name) → full_by o ≡ first_full (name ∷ []) 0 groups
full_is groups name None h = sym (none_full name 0 groups (sym (named_live name groups) ∙ h))
full_is groups name (Some p) h =
    sym (peak_full (name ∷ []) groups p.most p.least (peak_same (λ c. name ≡ c) (λ c. has_name (name ∷ []) c ≡ true) groups p.most p.least (one_name name) (name_one name) h.peak) h.few)

pub full_some : (p : Peak) → 200 ≤ p.most → full_by (Some p) ≡ Some p.least
full_some p le =
    by_test (nat_le 200 p.most)
    (λ t. ap (λ (b : Bool). if b then Some p.least else None) t)
    (λ f. absurd (let less = leb-false 200 p.most f in omega (arith, le, less)))

pub full_none : (p : Peak) → p.most < 200 → full_by (Some p) ≡ None
full_none p less =
    by_test (nat_le 200 p.most)
    (λ t. absurd (let le = leb-true 200 p.most t in omega (arith, le, less)))
    (λ f. ap (λ (b : Bool). if b then Some p.least else None) f)

-- ---- the peak of several cohorts

abbrev pair : Peak → ℕ × ℕ
pair p = (p.most, p.least)

pair_if : (b : Bool) (p q : Peak) → pair (if b then p else q) ≡ (if b then pair p else pair q)
pair_if true p q = refl
pair_if false p q = refl

pair_higher : (a b : Peak) → pair (higher_of a b) ≡ higher (pair a) (pair b)
pair_higher a b =
    let less : Bool = nat_lt a.most b.most in
    let more : Bool = nat_lt b.most a.most in
    let first : Bool = nat_le a.least b.least in
    pair_if less b (if more then a else if first then a else b)
    ∙ ap (λ (x : ℕ × ℕ). if less then pair b else x) (pair_if more a (if first then a else b))
    ∙ ap (λ (x : ℕ × ℕ). if less then pair b else if more then pair a else x) (pair_if first a b)

either_if : (P : Peak → Type 0) (b : Bool) (p q : Peak) → P p → P q → P (if b then p else q)
either_if P true p q h k = h
either_if P false p q h k = k

few_higher : (a b : Peak) → a.most ≤ 200 → b.most ≤ 200 → (higher_of a b).most ≤ 200
few_higher a b h k =
    let more : Bool = nat_lt b.most a.most in
    let first : Bool = nat_le a.least b.least in
    either_if (λ (p : Peak). p.most ≤ 200) (nat_lt a.most b.most) b (if more then a else if first then a else b) k
    (either_if (λ (p : Peak). p.most ≤ 200) more a (if first then a else b) h (either_if (λ (p : Peak). p.most ≤ 200) first a b h k))

or_swap : (a b : Bool) → (a || (b || false)) ≡ (b || a)
or_swap true true = refl
or_swap true false = refl
or_swap false true = refl
or_swap false false = refl

swapped : (cohorts : List ℕ) (name c : ℕ) → has_name (cohorts ++ name ∷ []) c ≡ has_name (name ∷ cohorts) c
swapped cohorts name c = list_any-append (λ other. other == c) cohorts (name ∷ []) ∙ or_swap (has_name cohorts c) (name == c)

pub first_peak : (groups : List (List Cover)) (cohorts : List ℕ) (cohort : ℕ) (p : Peak) → IsPeakOf groups cohort p → cohorts ≡ [] → IsPeakSoFar groups (cohorts ++ cohort ∷ []) (Some p)
first_peak groups cohorts cohort p h none =
    subst (λ (l : List ℕ). IsPeakSoFar groups (l ++ cohort ∷ []) (Some p)) (sym none)
    (peak_same (λ c. cohort ≡ c) (λ c. has_name (cohort ∷ []) c ≡ true) groups p.most p.least (one_name cohort) (name_one cohort) h.peak, h.few)

pub more_peak : (groups : List (List Cover)) (cohorts : List ℕ) (cohort : ℕ) (p q : Peak) → IsPeakOf groups cohort p → IsPeakSoFar groups cohorts (Some q) → IsPeakSoFar groups (cohorts ++ cohort ∷ []) (Some (higher_of p q))
more_peak groups cohorts cohort p q h so_far = (
  peak_same (λ c. has_name (cohort ∷ cohorts) c ≡ true) (λ c. has_name (cohorts ++ cohort ∷ []) c ≡ true) groups (higher_of p q).most (higher_of p q).least
      (λ c e. swapped cohorts cohort c ∙ e) (λ c e. sym (swapped cohorts cohort c) ∙ e)
      (subst (λ (x : ℕ × ℕ). IsPeak (λ c. has_name (cohort ∷ cohorts) c ≡ true) groups x.0 x.1) (sym (pair_higher p q)) (peak_both cohort cohorts groups (pair p) (pair q) h.peak so_far.0)),
  few_higher p q h.few so_far.1,
)

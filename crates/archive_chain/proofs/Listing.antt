-- The cohorts in order, and their rows, after each kind of entry.
use Rattle.std.proofs.Common.{◌≡◌, ℕ, zero, suc, ◌<◌, Bool, true, false, List, [], ◌∷◌, ◌++◌, length, map, Some, None, refl, sym, ap, subst, ◌∙◌, arith}
use Rattle.std.specs.Prelude.{◌==◌, nat_lt, slice_get, slice_index_or, replicate, if◌then◌else◌}
use Rattle.std.specs.List.{AllByRecursion}
use Rattle.std.proofs.lemmas.Bool.{eq-eqb, ltb-true, ltb-false, lt-ltb}
use Rattle.archive_chain.specs.Kept.{Cover, cohort_of, with_name, cohorts_in}
use Rattle.archive_chain.proofs.RowsRenewing.{by_test}
use Rattle.archive_chain.specs.InsideIndex.{Bones}
use Rattle.archive_chain.specs.InsideTable.{Rises}
use Rattle.archive_chain.specs.InsideListed.{names_by, IsOpen, AreOpen, IsListed}
use Rattle.archive_chain.proofs.Indexing.{none_some}

pub names_same : (groups : List (List Cover)) → cohorts_in groups ≡ names_by (map cohort_of groups)
names_same [] = refl
names_same (g ∷ groups) = ap (with_name (cohort_of g)) (names_same groups)

-- ---- a list of names with one more

named_one : (name other : ℕ) (names : List ℕ) (a b : Bool) → nat_lt name other ≡ a → (name == other) ≡ b
    → with_name name (other ∷ names) ≡ (if a then name ∷ other ∷ names else if b then other ∷ names else other ∷ with_name name names)
named_one name other names a b p q =
    ap (λ (x : Bool). if x then name ∷ other ∷ names else if name == other then other ∷ names else other ∷ with_name name names) p
    ∙ ap (λ (x : Bool). if a then name ∷ other ∷ names else if x then other ∷ names else other ∷ with_name name names) q

name_above : (low name : ℕ) (names : List ℕ) → low < name → AllByRecursion (λ y. low < y) names → AllByRecursion (λ y. low < y) (with_name name names)
name_above low name [] less all = (less, tt)
name_above low name (other ∷ names) less all =
    by_test (nat_lt name other)
    (λ p. subst (AllByRecursion (λ y. low < y)) (sym (ap (λ (x : Bool). if x then name ∷ other ∷ names else if name == other then other ∷ names else other ∷ with_name name names) p)) (less, all))
    (λ p.
    by_test (name == other)
    (λ q. subst (AllByRecursion (λ y. low < y)) (sym (named_one name other names false true p q)) all)
    (λ q. subst (AllByRecursion (λ y. low < y)) (sym (named_one name other names false false p q)) (all.0, name_above low name names less all.1)))

all_over : (low high : ℕ) (names : List ℕ) → low < high → AllByRecursion (λ y. high < y) names → AllByRecursion (λ y. low < y) names
all_over low high [] less all = tt
all_over low high (x ∷ names) less all = (let h = all.0 in omega (arith, less, h), all_over low high names less all.1)

name_rises : (name : ℕ) (names : List ℕ) → Rises names → Rises (with_name name names)
name_rises name [] up = (tt, tt)
name_rises name (other ∷ names) up =
    by_test (nat_lt name other)
    (λ p. let less = ltb-true name other p in
    subst Rises (sym (ap (λ (x : Bool). if x then name ∷ other ∷ names else if name == other then other ∷ names else other ∷ with_name name names) p)) ((less, all_over name other names less up.0), up))
    (λ p.
    by_test (name == other)
    (λ q. subst Rises (sym (named_one name other names false true p q)) up)
    (λ q.
    let not_less = ltb-false name other p in
    let apart : name ≡ other → ⊥ = λ same. let t = sym (eq-eqb name other same) ∙ q in cc in
    subst Rises (sym (named_one name other names false false p q)) (name_above other name names (omega (arith, not_less, apart)) up.0, name_rises name names up.1)))

pub names_rise : (cohorts : List ℕ) → Rises (names_by cohorts)
names_rise [] = tt
names_rise (c ∷ cohorts) = name_rises c (names_by cohorts) (names_rise cohorts)

-- ---- a Seal

pub name_last : (name n : ℕ) (names : List ℕ) → name < n → with_name name (names ++ n ∷ []) ≡ with_name name names ++ n ∷ []
name_last name n [] less =
    ap (λ (x : Bool). if x then name ∷ n ∷ [] else if name == n then n ∷ [] else n ∷ name ∷ []) (lt-ltb name n less)
name_last name n (other ∷ names) less =
    by_test (nat_lt name other)
    (λ p.
    ap (λ (x : Bool). if x then name ∷ other ∷ (names ++ n ∷ []) else if name == other then other ∷ (names ++ n ∷ []) else other ∷ with_name name (names ++ n ∷ [])) p
    ∙ sym (ap (λ (x : Bool). (if x then name ∷ other ∷ names else if name == other then other ∷ names else other ∷ with_name name names) ++ n ∷ []) p))
    (λ p.
    by_test (name == other)
    (λ q. named_one name other (names ++ n ∷ []) false true p q ∙ sym (ap (λ (l : List ℕ). l ++ n ∷ []) (named_one name other names false true p q)))
    (λ q. named_one name other (names ++ n ∷ []) false false p q ∙ ap (λ (l : List ℕ). other ∷ l) (name_last name n names less)
    ∙ sym (ap (λ (l : List ℕ). l ++ n ∷ []) (named_one name other names false false p q))))

one_name : (n count : ℕ) → names_by (replicate (suc count) n) ≡ n ∷ []
one_name n zero = refl
one_name n (suc count) =
    ap (with_name n) (one_name n count)
    ∙ by_test (nat_lt n n)
    (λ p. absurd (let less = ltb-true n n p in omega (arith, less)))
    (λ p. named_one n n [] false true p (eq-eqb n n refl))

names_sealed : (n count : ℕ) (cohorts : List ℕ) → AllByRecursion (λ c. c < n) cohorts → names_by (cohorts ++ replicate (suc count) n) ≡ names_by cohorts ++ n ∷ []
names_sealed n count [] below = one_name n count
names_sealed n count (c ∷ cohorts) below = ap (with_name c) (names_sealed n count cohorts below.1) ∙ name_last c n (names_by cohorts) below.0

pub get_more : (table : List Bones) (new : Bones) (i : ℕ) (b : Bones) → slice_get table i ≡ Some b → slice_get (table ++ new ∷ []) i ≡ Some b
get_more [] new i b e = absurd (none_some b e)
get_more (x ∷ table) new zero b e = e
get_more (x ∷ table) new (suc i) b e = get_more table new i b e

pub get_new : (table : List Bones) (new : Bones) → slice_get (table ++ new ∷ []) (length table) ≡ Some new
get_new [] new = refl
get_new (x ∷ table) new = get_new table new

open_more : (table : List Bones) (new : Bones) (live names : List ℕ) → new.next ≡ None → AreOpen table live names → AreOpen (table ++ new ∷ []) (live ++ length table ∷ []) (names ++ new.stamp ∷ [])
open_more table new [] [] none open_ = (record { bones = new; there = get_new table new; stamp = refl; open_ = none }, tt)
open_more table new [] (n ∷ names) none open_ = absurd open_
open_more table new (p ∷ live) [] none open_ = absurd open_
open_more table new (p ∷ live) (n ∷ names) none open_ =
    let one : IsOpen table p n = open_.0 in
    (record { bones = one.bones; there = get_more table new p one.bones one.there; stamp = one.stamp; open_ = one.open_ }, open_more table new live names none open_.1)

pub seal_listed : (table : List Bones) (cohorts names live : List ℕ) (n count : ℕ) (new : Bones) → IsListed table cohorts names live → AllByRecursion (λ c. c < n) cohorts → 0 < count → new.stamp ≡ n → new.next ≡ None
    → IsListed (table ++ new ∷ []) (cohorts ++ replicate count n) (names ++ n ∷ []) (live ++ length table ∷ [])
seal_listed table cohorts names live n zero new old below some stamp none = absurd (omega (arith, some))
seal_listed table cohorts names live n (suc count) new old below some stamp none = record {
  names_are = ap (λ (l : List ℕ). l ++ n ∷ []) old.names_are ∙ sym (names_sealed n count cohorts below);
  are_open = subst (λ (x : ℕ). AreOpen (table ++ new ∷ []) (live ++ length table ∷ []) (names ++ x ∷ [])) stamp (open_more table new live names none old.are_open);
}

-- ---- one of them

pub open_length : (table : List Bones) (live names : List ℕ) → AreOpen table live names → length live ≡ length names
open_length table [] [] h = refl
open_length table [] (n ∷ names) h = absurd h
open_length table (p ∷ live) [] h = absurd h
open_length table (p ∷ live) (n ∷ names) h = ap suc (open_length table live names h.1)

pub open_at : (table : List Bones) (live names : List ℕ) (i : ℕ) → AreOpen table live names → i < length names → IsOpen table (slice_index_or live i 0) (slice_index_or names i 0)
open_at table [] [] i h less = absurd (omega (arith, less))
open_at table [] (n ∷ names) i h less = absurd h
open_at table (p ∷ live) [] i h less = absurd h
open_at table (p ∷ live) (n ∷ names) zero h less = h.0
open_at table (p ∷ live) (n ∷ names) (suc i) h less = open_at table live names i h.1 (omega (arith, less))

pub listed_as : (table table_new : List Bones) (cohorts cohorts_new names names_new live live_new : List ℕ) → IsListed table cohorts names live → table_new ≡ table → cohorts_new ≡ cohorts → names_new ≡ names → live_new ≡ live → IsListed table_new cohorts_new names_new live_new
listed_as table table_new cohorts cohorts_new names names_new live live_new h t c n l = record {
  names_are = n ∙ h.names_are ∙ ap names_by (sym c);
  are_open = subst (λ (x : List Bones). AreOpen x live_new names_new) (sym t) (subst (λ (x : List ℕ). AreOpen table x names_new) (sym l) (subst (λ (x : List ℕ). AreOpen table live x) (sym n) h.are_open));
}

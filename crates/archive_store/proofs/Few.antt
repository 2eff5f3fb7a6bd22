-- A renewal that breaks no rule names no more cohorts than there are groups: each name is that of a group, and none comes twice.
use Rattle.std.proofs.Common.{◌≡◌, ◌⊎◌, inl, inr, ⊎_elim, ℕ, suc, ◌+◌, ◌<◌, ◌≤◌, ◌==◌, Bool, true, false, not, cond, List, [], ◌∷◌, map, length, find, Option, Some, None, option_map, refl, sym, ap, ◌∙◌, arith, subst}
use Rattle.std.specs.List.{list_any}
use Rattle.std.specs.Option.{option_or}
use Rattle.std.proofs.lemmas.Bool.{cases_eq}
use Rattle.std.proofs.lemmas.List.{length-map}
use Rattle.entry_codec.specs.declared.entry.Entry.{Entry}
use Rattle.entry_codec.specs.declared.entry.Entry.TheVariants.{Deposit, Seal, RenewStamps, RenewTrees, SetPolicy}
use Rattle.entry_codec.specs.Spelling.{AreAscending, IsEntry}
use Rattle.archive_chain.specs.declared.refusal.Refusal.{Refusal}
use Rattle.archive_chain.specs.declared.refusal.Refusal.TheVariants.{NotLive}
use Rattle.archive_chain.specs.Kept.{Cover, Kept, groups_of, cohort_of}
use Rattle.archive_chain.specs.Rules.{is_live, live_rule, shape_rule}
use Rattle.archive_store.proofs.Short.{HasFewCohorts}

abbrev In : ℕ → List ℕ → Type 0
In x [] = ⊥
In x (y ∷ ys) = (x ≡ y) ⊎ In x ys

abbrev Distinct : List ℕ → Type 0
Distinct [] = Unit {0}
Distinct (c ∷ cs) = (In c cs → ⊥) × Distinct cs

above : (cs : List ℕ) (k n : ℕ) → k < n → AreAscending (n ∷ cs) → In k (n ∷ cs) → ⊥
above [] k n lt up among = ⊎_elim (λ (e : k ≡ n). absurd (omega (arith, lt, e))) (λ (r : ⊥). r) among
above (m ∷ cs) k n lt up among =
    ⊎_elim (λ (e : k ≡ n). absurd (omega (arith, lt, e))) (λ (r : In k (m ∷ cs)). above cs k m (omega (arith, lt, up.0)) up.1 r) among

distinct : (cs : List ℕ) → AreAscending cs → Distinct cs
distinct [] up = tt
distinct (n ∷ []) up = ((λ among. among), tt)
distinct (n ∷ m ∷ cs) up = (above cs n m up.0 up.1, distinct (m ∷ cs) up.1)

-- without a number
abbrev keep : {n c : ℕ} → (c ≡ n) ⊎ (c ≡ n → ⊥) → List ℕ → List ℕ
keep {n} {c} (inl e) cs = cs
keep {n} {c} (inr e) cs = c ∷ cs

abbrev without : ℕ → List ℕ → List ℕ
without n [] = []
without n (c ∷ cs) = keep {n = n} {c = c} (cases_eq c n) (without n cs)

in_without : (n : ℕ) (cs : List ℕ) (x : ℕ) → In x (without n cs) → In x cs × (x ≡ n → ⊥)
in_without n [] x among = absurd among
in_without n (c ∷ cs) x among = kept (in_without n cs x) (cases_eq c n) among where
  kept : (In x (without n cs) → In x cs × (x ≡ n → ⊥)) → (d : (c ≡ n) ⊎ (c ≡ n → ⊥)) → In x (keep {n = n} {c = c} d (without n cs)) → In x (c ∷ cs) × (x ≡ n → ⊥)
  kept before (inl e) among = let r = before among in (inr r.0, r.1)
  kept before (inr e) among = ⊎_elim (λ (i : x ≡ c). (inl i, λ (j : x ≡ n). e (sym i ∙ j))) (λ (i : In x (without n cs)). let r = before i in (inr r.0, r.1)) among

distinct_without : (n : ℕ) (cs : List ℕ) → Distinct cs → Distinct (without n cs)
distinct_without n [] d = tt
distinct_without n (c ∷ cs) d = kept (distinct_without n cs d.1) (cases_eq c n) where
  kept : Distinct (without n cs) → (e : (c ≡ n) ⊎ (c ≡ n → ⊥)) → Distinct (keep {n = n} {c = c} e (without n cs))
  kept rest (inl e) = rest
  kept rest (inr e) = ((λ among. d.0 (in_without n cs c among).0), rest)

same_without : (n : ℕ) (cs : List ℕ) → (In n cs → ⊥) → length (without n cs) ≡ length cs
same_without n [] none = refl
same_without n (c ∷ cs) none = kept (same_without n cs (λ among. none (inr among))) (cases_eq c n) where
  kept : length (without n cs) ≡ length cs → (e : (c ≡ n) ⊎ (c ≡ n → ⊥)) → length (keep {n = n} {c = c} e (without n cs)) ≡ length (c ∷ cs)
  kept rest (inl e) = absurd (none (inl (sym e)))
  kept rest (inr e) = ap suc rest

one_less : (n : ℕ) (cs : List ℕ) → Distinct cs → length cs ≤ length (without n cs) + 1
one_less n [] d = omega arith
one_less n (c ∷ cs) d = kept (one_less n cs d.1) (cases_eq c n) where
  kept : length cs ≤ length (without n cs) + 1 → (e : (c ≡ n) ⊎ (c ≡ n → ⊥)) → length (c ∷ cs) ≤ length (keep {n = n} {c = c} e (without n cs)) + 1
  kept rest (inl e) = omega (arith, same_without n cs (subst (λ (x : ℕ). In x cs → ⊥) e d.0))
  kept rest (inr e) = omega (arith, rest)

no_more : (ns cs : List ℕ) → Distinct cs → ((c : ℕ) → In c cs → In c ns) → length cs ≤ length ns
no_more [] [] d all = omega arith
no_more [] (c ∷ cs) d all = absurd (all c (inl refl))
no_more (n ∷ ns) cs d all =
    let rest : (c : ℕ) → In c (without n cs) → In c ns = λ c among. let r = in_without n cs c among in ⊎_elim (λ (e : c ≡ n). absurd (r.1 e)) (λ (i : In c ns). i) (all c r.0) in
    omega (arith, one_less n cs d, no_more ns (without n cs) (distinct_without n cs d) rest)

-- ---- each name is live

abbrev names : List (List Cover) → List ℕ
names groups = map (λ (covers : List Cover). cohort_of covers) groups

live_in : (groups : List (List Cover)) (c : ℕ) → list_any (λ (covers : List Cover). cohort_of covers == c) groups ≡ true → In c (names groups)
live_in [] c live = absurd (cc live)
live_in (g ∷ groups) c live = elim (cases_eq (cohort_of g) c) [ inl e ↦ inl (sym e) | inr e ↦ inr (live_in groups c (grind (arith, live, e))) ]

all_live : (k : Kept) (cs : List ℕ) → find (λ c. not (is_live k c)) cs ≡ None → (c : ℕ) → In c cs → is_live k c ≡ true
all_live k [] none c among = absurd among
all_live k (d ∷ cs) none c among = tested (λ rest i. all_live k cs rest c i) (is_live k d) refl none among where
  tested : (find (λ c. not (is_live k c)) cs ≡ None → In c cs → is_live k c ≡ true) → (b : Bool) → is_live k d ≡ b → cond (not b) (Some d) (find (λ c. not (is_live k c)) cs) ≡ None → In c (d ∷ cs) → is_live k c ≡ true
  tested later true is rest among = ⊎_elim (λ (e : c ≡ d). ap (is_live k) e ∙ is) (λ (i : In c cs). later rest i) among
  tested later false is rest among = absurd (cc rest)

live_none : (o : Option ℕ) → option_map NotLive o ≡ None → o ≡ None
live_none None is = refl
live_none (Some c) is = absurd (cc is)

or_none : (a b : Option Refusal) → option_or a b ≡ None → a ≡ None
or_none None b is = refl
or_none (Some r) b is = absurd (cc is)

few_named : (k : Kept) (cs : List ℕ) → AreAscending cs → live_rule k cs ≡ None → length cs ≤ length k.sealed
few_named k cs up none =
    let live : (c : ℕ) → In c cs → In c (names k.sealed) = λ c among. live_in k.sealed c (all_live k cs (live_none _ none) c among) in
    omega (arith, no_more (names k.sealed) cs (distinct cs up) live, length-map k.sealed (λ (covers : List Cover). cohort_of covers))

pub few_cohorts : (k : Kept) (e : Entry) → IsEntry e → groups_of k ≤ 65536 → shape_rule k e ≡ None → HasFewCohorts e
few_cohorts k (Deposit groups) is few none = tt
few_cohorts k (Seal alg count token) is few none = tt
few_cohorts k (RenewStamps alg cohorts token) is few none = omega (arith, few, few_named k cohorts is.0.ascending (or_none _ _ none))
few_cohorts k (RenewTrees alg cohorts token) is few none = omega (arith, few, few_named k cohorts is.0.ascending (or_none _ _ none))
few_cohorts k (SetPolicy text) is few none = tt

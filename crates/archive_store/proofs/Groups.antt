-- A history has as many groups as its deposits, and no more than there may be.
use Rattle.std.proofs.Common.{◌≡◌, ℕ, zero, suc, ◌+◌, ◌≤◌, Bool, true, false, ◌&&◌, List, [], ◌∷◌, ◌++◌, length, Option, Some, None, refl, ap, arith}
use Rattle.std.specs.Prelude.{nat_lt, nat_le, min, if◌then◌else◌, option_map}
use Rattle.std.specs.List.{flat_map}
use Rattle.std.specs.Option.{option_or}
use Rattle.std.proofs.lemmas.List.{length-append, length-map}
use Rattle.std.proofs.lemmas.Bool.{ltb-false}
use Rattle.std.proofs.lemmas.Bool.Decides.{nat_tests}
use Rattle.entry_codec.specs.declared.entry.Entry.{Entry}
use Rattle.entry_codec.specs.declared.entry.Entry.TheVariants.{Deposit, Seal, RenewStamps, RenewTrees, SetPolicy}
use Rattle.archive_chain.specs.declared.refusal.Refusal.TheVariants.{Limit, Count}
use Rattle.archive_chain.specs.declared.refusal.Full.TheVariants as full
use Rattle.archive_chain.specs.Kept.{Cover, Kept, groups_of, is_in}
use Rattle.archive_chain.specs.Steps.{cover_at, sealed_from, stamped_in, renewed_from, next}
use Rattle.archive_chain.specs.Rules.{most_groups, most_sealed, past, limit_rule, count_rule, shape_rule}
use Rattle.archive_chain.specs.History.{State, after, start, state_from, state_of, groups_in, EachAfter, IsLegalButImprint, LegalButImprint}

-- ---- what the rules say

pub or_none : {A : Type 0} (a b : Option A) → option_or a b ≡ None → a ≡ None
or_none None b is = refl
or_none (Some x) b is = absurd (cc is)

map_none : {A B : Type 0} (f : A → B) (o : Option A) → option_map f o ≡ None → o ≡ None
map_none f None is = refl
map_none f (Some x) is = absurd (cc is)

past_none : (limit n : ℕ) → past limit n ≡ None → n ≤ limit
past_none limit n is = by_test (nat_lt limit n) refl is where
  by_test : (b : Bool) → nat_lt limit n ≡ b → (if b then Some n else None) ≡ None → n ≤ limit
  by_test true t none = absurd (cc none)
  by_test false t none = ltb-false limit n t

few_then : (k : Kept) (groups : List (List (List ℕ))) → limit_rule k groups ≡ None → groups_of k + length groups ≤ most_groups
few_then k groups none = past_none most_groups (groups_of k + length groups) (map_none (λ (n : ℕ). Limit (full.Groups n)) _ (or_none _ _ none))

pub count_then : (k : Kept) (count : ℕ) → count_rule k count ≡ None → count ≤ k.pending
count_then k count none = by_test (nat_lt 0 count && nat_le count (min k.pending most_sealed)) refl none where
  by_test : (b : Bool) → (nat_lt 0 count && nat_le count (min k.pending most_sealed)) ≡ b → (if b then None else Some (Count count k.pending)) ≡ None → count ≤ k.pending
  by_test true t is = grind (arith, nat_tests, t)
  by_test false t is = absurd (cc is)

-- ---- a step

length-sealed_from : (cover : ℕ → Cover) (place n : ℕ) → length (sealed_from cover place n) ≡ n
length-sealed_from cover place zero = refl
length-sealed_from cover place (suc n) = ap suc (length-sealed_from cover (place + 1) n)

length-renewed_from : (cover : ℕ → Cover) (cohorts : List ℕ) (place : ℕ) (groups : List (List Cover)) → length (renewed_from cover cohorts place groups) ≡ length groups
length-renewed_from cover cohorts place [] = refl
length-renewed_from cover cohorts place (covers ∷ groups) =
    by_test (is_in cohorts covers) (length-renewed_from cover cohorts (place + 1) groups) (length-renewed_from cover cohorts place groups) where
      by_test : (b : Bool) → length (renewed_from cover cohorts (place + 1) groups) ≡ length groups → length (renewed_from cover cohorts place groups) ≡ length groups
          → length (if b then (covers ++ cover place ∷ []) ∷ renewed_from cover cohorts (place + 1) groups else covers ∷ renewed_from cover cohorts place groups) ≡ suc (length groups)
      by_test true one other = ap suc one
      by_test false one other = ap suc other

next_groups : (k : Kept) (e : Entry) → shape_rule k e ≡ None → groups_of (next k e) ≡ groups_of k + length (groups_in e)
next_groups k (Deposit groups) none = omega arith
next_groups k (Seal alg count token) none =
    omega (
      arith,
      count_then k count none,
      length-append k.sealed (sealed_from (cover_at k.entries true alg token) 0 count),
      length-sealed_from (cover_at k.entries true alg token) 0 count,
    )
next_groups k (RenewStamps alg cohorts token) none = omega (arith, length-map k.sealed (stamped_in (cover_at k.entries false alg token) cohorts))
next_groups k (RenewTrees alg cohorts token) none = omega (arith, length-renewed_from (cover_at k.entries true alg token) cohorts 0 k.sealed)
next_groups k (SetPolicy text) none = omega arith

next_few : (k : Kept) (e : Entry) → shape_rule k e ≡ None → groups_of k ≤ most_groups → groups_of (next k e) ≤ most_groups
next_few k (Deposit groups) none few = omega (arith, few_then k groups none)
next_few k (Seal alg count token) none few = omega (arith, few, next_groups k (Seal alg count token) none)
next_few k (RenewStamps alg cohorts token) none few = omega (arith, few, next_groups k (RenewStamps alg cohorts token) none)
next_few k (RenewTrees alg cohorts token) none few = omega (arith, few, next_groups k (RenewTrees alg cohorts token) none)
next_few k (SetPolicy text) none few = omega arith

-- ---- a history

groups_from : (s : State) (h : List Entry) → EachAfter IsLegalButImprint s h → groups_of (state_from s h).kept ≡ groups_of s.kept + length (flat_map groups_in h)
groups_from s [] legal = omega arith
groups_from s (e ∷ h) legal =
    omega (arith, groups_from (after s e) h legal.2, next_groups s.kept e legal.1.2.0, length-append (groups_in e) (flat_map groups_in h))

few_from : (s : State) (h : List Entry) → EachAfter IsLegalButImprint s h → groups_of s.kept ≤ most_groups → groups_of (state_from s h).kept ≤ most_groups
few_from s [] legal few = few
few_from s (e ∷ h) legal few = few_from (after s e) h legal.2 (next_few s.kept e legal.1.2.0 few)

pub groups_are : (h : List Entry) → LegalButImprint h → groups_of (state_of h).kept ≡ length (flat_map groups_in h)
groups_are h legal = omega (arith, groups_from start h legal)

pub few_groups : (h : List Entry) → LegalButImprint h → groups_of (state_of h).kept ≤ most_groups
few_groups h legal = few_from start h legal (omega arith)

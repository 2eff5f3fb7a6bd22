-- Covering as a fact and as a test, and clauses without a fault.
use Rattle.std.proofs.Common.{◌≡◌, inl, inr, ℕ, ◌+◌, Bool, true, false, not, ◌||◌, List, [], ◌∷◌, IsTrue, ◌↔◌, Option, Some, None, refl, sym, ap, ◌∙◌, cond}
use Rattle.std.specs.Option.{option_map, option_or}
use Rattle.std.specs.List.{AllByRecursion, position_from}
use Rattle.std.specs.Str.{bytes_eq}
use Rattle.std.proofs.lemmas.Bool.{and_parts, and_from, or_cases}
use Rattle.std.proofs.lemmas.Slice.Eq.{bytes_eq-Decides}
use Rattle.hash_kit.specs.declared.algorithm.HashAlg.{HashAlg}
use Rattle.reduced_tree.specs.Reduced.{first_of, plain_root, other_root}
use Rattle.evidence_verify.specs.Stamps.{Checked}
use Rattle.evidence_verify.specs.Values.{Owed}
use Rattle.evidence_verify.specs.Covers.{IsRoot, CoversBy, Covers, has, is_other, is_root, covers_by, covers, not_covered, uncovered, cover_fault}
use Rattle.evidence_verify.specs.Holds.{IsCovered}
use Rattle.evidence_verify.proofs.Members.{has_from, from_has}

from_other : (o : Option (List ℕ)) (imprint : List ℕ) → is_other o imprint ≡ true → o ≡ Some imprint
from_other None imprint h = cc
from_other (Some root) imprint h = ap (λ (r : List ℕ). Some r) (sym ((bytes_eq-Decides imprint root).0 h))

to_other : (o : Option (List ℕ)) (imprint : List ℕ) → o ≡ Some imprint → is_other o imprint ≡ true
to_other o imprint e = rw e ((bytes_eq-Decides imprint imprint).1 refl)

or_left : (a b : Bool) → a ≡ true → (a || b) ≡ true
or_left true b h = refl
or_left false b h = cc

or_right : (a b : Bool) → b ≡ true → (a || b) ≡ true
or_right true b h = refl
or_right false b h = h

root_from : (alg : HashAlg) (lists : List (List (List ℕ))) (imprint : List ℕ) → is_root alg lists imprint ≡ true → IsRoot alg lists imprint
root_from alg lists imprint h =
    elim (or_cases (bytes_eq imprint (plain_root alg lists)) (is_other (other_root alg lists) imprint) h) [
      | inl e ↦ inl ((bytes_eq-Decides imprint (plain_root alg lists)).0 e)
      | inr e ↦ inr (from_other (other_root alg lists) imprint e)
    ]

from_root : (alg : HashAlg) (lists : List (List (List ℕ))) (imprint : List ℕ) → IsRoot alg lists imprint → is_root alg lists imprint ≡ true
from_root alg lists imprint (inl e) = or_left _ _ ((bytes_eq-Decides imprint (plain_root alg lists)).1 e)
from_root alg lists imprint (inr e) = or_right (bytes_eq imprint (plain_root alg lists)) _ (to_other (other_root alg lists) imprint e)

by_lists : (alg : HashAlg) (imprint : List ℕ) (lists : Option (List (List (List ℕ)))) (value : List ℕ) → (covers_by alg imprint lists value ≡ true) ↔ CoversBy alg imprint lists value
by_lists alg imprint None value = ((bytes_eq-Decides imprint value).0, (bytes_eq-Decides imprint value).1)
by_lists alg imprint (Some lists) value = (
  λ h. let parts = and_parts (has (first_of lists) value) (is_root alg lists imprint) h in (from_has (first_of lists) value parts.0, root_from alg lists imprint parts.1),
  λ h. and_from (has (first_of lists) value) _ (has_from (first_of lists) value h.0) (from_root alg lists imprint h.1),
)

pub covers_is : (c : Checked) (value : List ℕ) → IsTrue (covers c value) ↔ Covers c value
covers_is c value = by_lists c.says.alg c.says.imprint c.place.ats.lists value

-- ---- no value is uncovered

some_none : {A : Type 0} {x : A} → Some x ≡ None → ⊥
some_none e = cc

pub both_none : {A : Type 0} (o p : Option A) → option_or o p ≡ None → (o ≡ None) × (p ≡ None)
both_none None p e = (refl, e)
both_none (Some x) p e = absurd (some_none e)

decided : {Q : Type 0} (n : ℕ) (P : Bool → Type 0) (later : Option ℕ) → (P true → later ≡ None → Q) → (b : Bool) → P b → cond (not b) (Some n) later ≡ None → Q
decided n P later f true is none = f is none
decided n P later f false is none = absurd (some_none none)

none_found : (c : Checked) (n : ℕ) (values : List (List ℕ)) → position_from (λ (v : List ℕ). not (covers c v)) n values ≡ None → AllByRecursion (Covers c) values
none_found c n [] e = tt
none_found c n (v ∷ values) e =
    decided n (λ b. covers c v ≡ b) (position_from (λ (w : List ℕ). not (covers c w)) (n + 1) values) (λ is later. ((covers_is c v).0 is, none_found c (n + 1) values later)) (covers c v) refl e

found_none : (c : Checked) (n : ℕ) (values : List (List ℕ)) → AllByRecursion (Covers c) values → position_from (λ (v : List ℕ). not (covers c v)) n values ≡ None
found_none c n [] h = refl
found_none c n (v ∷ values) h =
    ap (λ (b : Bool). cond (not b) (Some n) (position_from (λ (w : List ℕ). not (covers c w)) (n + 1) values)) ((covers_is c v).1 h.0) ∙ found_none c (n + 1) values h.1

none_mapped : {A B : Type 0} (f : A → B) (o : Option A) → option_map f o ≡ None → o ≡ None
none_mapped f None e = refl
none_mapped f (Some x) e = absurd (some_none e)

pub covered_all : (all_owed : List Owed) → cover_fault all_owed ≡ None → AllByRecursion IsCovered all_owed
unfolding uncovered
covered_all [] e = tt
covered_all (d ∷ all_owed) e =
    let parts = both_none (uncovered d) (cover_fault all_owed) e in
    (none_found d.stamp 0 d.values (none_mapped (not_covered d.stamp) _ parts.0), covered_all all_owed parts.1)

pub all_covered : (all_owed : List Owed) → AllByRecursion IsCovered all_owed → cover_fault all_owed ≡ None
unfolding uncovered
all_covered [] h = refl
all_covered (d ∷ all_owed) h =
    ap (λ (o : Option ℕ). option_or (option_map (not_covered d.stamp) o) (cover_fault all_owed)) (found_none d.stamp 0 d.values h.0) ∙ all_covered all_owed h.1

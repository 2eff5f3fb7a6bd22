-- Texts cut at a separator.
use Rattle.std.proofs.Common.{◌≡◌, ℕ, ◌+◌, ◌<◌, ◌==◌, Bool, true, false, cond, List, [], ◌∷◌, ◌++◌, length, take, drop, get_or, Some, None, position, refl, sym, ap, ◌∙◌, arith, take-append-drop, drop-cons, add-one, suc}
use Rattle.std.specs.List.{onto_first}
use Rattle.std.proofs.lemmas.Bool.{ltb-true, ltb-false, eqb-true}
use Rattle.std.proofs.lemmas.List.Splits.{slice_split_first, slice_split_none}
use Rattle.std.proofs.lemmas.List.Sums.{fails_before_first}
use Rattle.std.proofs.lemmas.List.Quantifiers.{position-Some}
use Rattle.algorithm_policy.specs.Fault.{parts}

place_is : (b : Bool) (n i : ℕ) → cond b (Some n) None ≡ Some i → (b ≡ true) × (n ≡ i)
place_is true n i h = (refl, cc)
place_is false n i h = cc

no_place : (b : Bool) (n : ℕ) → cond b (Some n) None ≡ None → b ≡ false
no_place true n h = cc
no_place false n h = refl

-- the first part ends at the place of the first separator
pub parts_at : (c i : ℕ) (text : List ℕ) → position (λ b. b == c) text ≡ Some i → parts c text ≡ take i text ∷ parts c (drop (i + 1) text)
parts_at c i text h =
    let p = place_is _ _ i h in
    let first = slice_split_first (λ b. b == c) text 0 (ltb-true _ _ p.0) in
    rw p.1 at first

-- a text without a separator is one part
pub one_part : (c : ℕ) (text : List ℕ) → position (λ b. b == c) text ≡ None → parts c text ≡ text ∷ []
one_part c text h =
    let above = ltb-false _ _ (no_place _ _ h) in
    slice_split_none (λ b. b == c) text (λ k d lt. fails_before_first (λ b. b == c) text k d (omega (arith, above, lt)))

-- what stands before, the separator, what stands after
pub whole_text : (c i : ℕ) (text : List ℕ) → position (λ b. b == c) text ≡ Some i → text ≡ take i text ++ c ∷ drop (i + 1) text
whole_text c i text h =
    let p = position-Some (λ b. b == c) text i 0 h in
    let within : i < length text = p.0 in
    let byte : get_or text i 0 ≡ c = eqb-true (get_or text i 0) c p.1 in
    sym (take-append-drop i text)
    ∙ ap (λ l. take i text ++ l) (drop-cons text i 0 within ∙ (λ j. byte j ∷ drop (suc i) text) ∙ ap (λ n. c ∷ drop n text) (sym (add-one i)))

-- there is always a first part
pub record Cons (text : List ℕ) (c : ℕ) : Type 0 where
  pub first : List ℕ
  pub rest : List (List ℕ)
  pub is : parts c text ≡ first ∷ rest

with_first : (b : Bool) (x : ℕ) (l : List (List ℕ)) (first : List ℕ) (rest : List (List ℕ)) → l ≡ first ∷ rest → (f : List ℕ) × (r : List (List ℕ)) × (cond b ([] ∷ l) (onto_first x l) ≡ f ∷ r)
with_first true x l first rest h = ([], l, refl)
with_first false x l first rest h = (x ∷ first, rest, ap (onto_first x) h)

pub some_part : (c : ℕ) (text : List ℕ) → Cons text c
some_part c [] = record { first = []; rest = []; is = refl }
some_part c (x ∷ xs) =
    let s = some_part c xs in
    let t = with_first (x == c) x (parts c xs) s.first s.rest s.is in
    record { first = t.0; rest = t.1; is = t.2 }

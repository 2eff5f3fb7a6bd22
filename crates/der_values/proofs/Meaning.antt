-- Reading and grammar lead to each other, and bytes have one meaning.
use Rattle.std.proofs.Common.{◌≡◌, ℕ, Bool, true, false, List, Option, Some, None, Result, Ok, Err, refl, sym, ap, ◌∙◌}
use Rattle.std.specs.Prelude.{IfOk, IsOkAnd}
use Rattle.der_values.specs.Input.{Input}
use Rattle.der_values.specs.Shape.{Shape, Checks, Parts}
use Rattle.der_values.specs.Reading.{Reading, read, first, Found, Finds, Unless, FindsUnless, AnswersUnless}
use Rattle.der_values.specs.Grammar.{Means}
use Rattle.der_values.proofs.Octets.{IsBytes}
use Rattle.der_values.proofs.Values.{ok_is}
use Rattle.der_values.proofs.Sound.{takes}
use Rattle.der_values.proofs.Again.{again}

abbrev fault_in : {P S F : Type 0} → Reading P S F → Option F
fault_in (Ok x) = None
fault_in (Err e) = Some e

unless_map : {A B : Type 0} (b : Bool) → (A → B) → Unless b A → Unless b B
unless_map true f u = tt
unless_map false f a = f a

module _ {C S F V : Type 0} (k : Checks C S F) (s : Shape C) (σ : S) (f : Parts s → S → V) (input : Input) where
  pub found_means : (v : V) → IsBytes input.left → Found f v (read k s σ input) → Means k s σ f input v
  found_means v fits h =
      let t = takes k s σ input h.parts h.state fits h.is in
      record { parts = h.parts; state = h.state; valid = t.valid; spelled = t.spelled; named = h.named }

  pub means_found : (v : V) → Means k s σ f input v → Found f v (read k s σ input)
  means_found v m = record {
    parts = m.parts;
    state = m.state;
    is = ap (λ (l : List ℕ). read k s σ (record { place = input.place; left = l })) m.spelled ∙ again k s σ input.place m.parts m.state m.valid;
    named = m.named;
  }

  one_found : (v w : V) → Found f v (read k s σ input) → Found f w (read k s σ input) → v ≡ w
  one_found v w a b =
      let same = ok_is {F = F} _ _ (sym a.is ∙ b.is) in
      sym a.named ∙ ap (λ (y : Parts s × S). f y.0 y.1) same ∙ b.named

  pub one_meaning : (v w : V) → Means k s σ f input v → Means k s σ f input w → v ≡ w
  one_meaning v w m n = one_found v w (means_found v m) (means_found w n)

  not_both : (e : F) {v : V} → read k s σ input ≡ Err e → Found f v (read k s σ input) → ⊥
  not_both e is found = differ (read k s σ input) (found.parts, found.state) is found.is where
    differ : (r : Reading (Parts s) S F) (y : Parts s × S) → r ≡ Err e → r ≡ Ok y → ⊥
    differ (Ok x) y p q = cc
    differ (Err d) y p q = cc

  -- bytes have a first fault or a meaning
  pub free_means : IsBytes input.left → first k s σ input ≡ None → (v : V) × Means k s σ f input v
  free_means fits none = by_reading (read k s σ input) refl none where
    by_reading : (r : Reading (Parts s) S F) → read k s σ input ≡ r → fault_in r ≡ None → (v : V) × Means k s σ f input v
    by_reading (Ok x) is free = (f x.0 x.1, found_means (f x.0 x.1) fits (record { parts = x.0; state = x.1; is = is; named = refl }))
    by_reading (Err e) is free = absurd cc

  pub means_free : (v : V) → Means k s σ f input v → first k s σ input ≡ None
  means_free v m = ap (λ (r : Reading (Parts s) S F). fault_in r) (means_found v m).is

  -- the clauses of a reader, from what it finds
  pub is_meant : {X : Type 0} (view : X → V) (r : Result X F) → IsBytes input.left → Finds f view r (read k s σ input) → IfOk r (λ x. Means k s σ f input (view x))
  is_meant view (Ok x) fits h = found_means (view x) fits h
  is_meant view (Err e) fits h = tt

  pub is_only : {X : Type 0} (view : X → V) (r : Result X F) → Finds f view r (read k s σ input) → (v : V) → Means k s σ f input v → IsOkAnd r (λ x. view x ≡ v)
  is_only view (Ok x) h v m = one_found (view x) v h (means_found v m)
  is_only view (Err e) h v m = absurd (not_both e h (means_found v m))

  -- the same for a reader that may want memory
  pub is_meant_unless : {X : Type 0} (free : F → Bool) (view : X → V) (r : Result X F) → IsBytes input.left → FindsUnless free f view r (read k s σ input) → IfOk r (λ x. Means k s σ f input (view x))
  is_meant_unless free view (Ok x) fits h = found_means (view x) fits h
  is_meant_unless free view (Err e) fits h = tt

  pub is_only_unless : {X : Type 0} (free : F → Bool) (view : X → V) (r : Result X F) → FindsUnless free f view r (read k s σ input) → (v : V) → Means k s σ f input v → AnswersUnless free view v r
  is_only_unless free view (Ok x) h v m = one_found (view x) v h (means_found v m)
  is_only_unless free view (Err e) h v m = unless_map (free e) (λ (is : read k s σ input ≡ Err e). not_both e is (means_found v m)) h

-- Readings that pass, one after another.
use Rattle.std.proofs.Common.{◌≡◌, ℕ, Bool, true, false, cond, List, Result, Ok, Err, refl, subst}
use Rattle.der_values.proofs.Values.{bind_ok, ok_is}
use Rattle.session_text.specs.declared.shape.ShapeFault.{ShapeFault}
use Rattle.session_text.specs.Unread.{Unread, Reading, followed}

-- what a reading gives, and the bytes behind it
pub record Passes {A : Type 0} (a : A) (tail : List ℕ) (r : Reading A) : Type 0 where
  pub place : ℕ
  pub is : r ≡ Ok (a, record { place = place; bytes = tail })

-- both parts of two
pub record Both {A B : Type 0} (p : Unread → Reading A) (q : Unread → Reading B) (before : Unread) (y : A × B) (after : Unread) : Type 0 where
  pub middle : Unread
  pub one : p before ≡ Ok (y.0, middle)
  pub other : q middle ≡ Ok (y.1, after)

pub both : {A B : Type 0} (p : Unread → Reading A) (q : Unread → Reading B) (before : Unread) (y : A × B) (after : Unread) → followed p q before ≡ Ok (y, after) → Both p q before y after
both {A} {B} p q before y after e =
    let a = bind_ok (p before) _ _ e in
    let b = bind_ok (q a.0.1) _ _ a.2 in
    let same : ((a.0.0, b.0.0), b.0.1) ≡ (y, after) = ok_is {A = (A × B) × Unread} {F = ShapeFault} _ _ b.2 in
    subst (λ (z : (A × B) × Unread). Both p q before z.0 z.1) same (record { middle = a.0.1; one = a.1; other = b.1 })

pub both_pass : {A B : Type 0} (p : Unread → Reading A) (q : Unread → Reading B) (before : Unread) (a : A) (b : B) (middle tail : List ℕ)
    → Passes a middle (p before) → ((place : ℕ) → Passes b tail (q (record { place = place; bytes = middle }))) → Passes (a, b) tail (followed p q before)
both_pass p q before a b middle tail one other =
    let next = other one.place in
    record { place = next.place; is = rw (one.is, next.is) refl }

-- a choice that did not fail
pub chosen_ok : {A F : Type 0} (b : Bool) (r : Result A F) (d : F) (y : A) → cond b r (Err d) ≡ Ok y → (b ≡ true) × (r ≡ Ok y)
chosen_ok true r d y e = (refl, e)
chosen_ok false r d y e = absurd cc

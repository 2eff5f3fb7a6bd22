-- What is left of an input to read, and a reading of it from the left.
use Rattle.std.specs.Prelude.{ℕ, Bool, true, false, List, Result, Ok, Err}
use Rattle.der_values.specs.Steps.{◌>>=◌}
use Rattle.session_text.specs.declared.shape.ShapeFault.{ShapeFault}
use Rattle.session_text.specs.declared.shape.ShapeFault.TheVariants.{At, Memory}
use Rattle.session_text.specs.declared.shape.ShapeKind.{ShapeKind}

-- the bytes that are left, and the place of the first of them
pub record Unread : Type 0 where
  pub place : ℕ
  pub bytes : List ℕ

-- what was read and what is left behind it, or the first fault
abbrev pub Reading : Type 0 → Type 0
Reading A = Result (A × Unread) ShapeFault

-- a fault of this kind at this place
abbrev pub shape_fault : {A : Type 0} → ℕ → ShapeKind → Result A ShapeFault
shape_fault place kind = Err (At place kind)

-- want of memory, which says nothing of the input
abbrev pub is_memory : ShapeFault → Bool
is_memory Memory = true
is_memory (At place kind) = false

-- one part, and another behind it
abbrev pub followed : {A B : Type 0} → (Unread → Reading A) → (Unread → Reading B) → Unread → Reading (A × B)
followed p q unread = p unread >>= λ x. q x.1 >>= λ y. Ok ((x.0, y.0), y.1)

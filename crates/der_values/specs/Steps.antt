-- Steps that may fail, one after the other.
use Rattle.std.specs.Prelude.{◌≡◌, ℕ, Result, Ok, Err}
use Rattle.der_values.specs.declared.fault.DerFault.{DerFault}
use Rattle.der_values.specs.declared.fault.DerKind.{DerKind}

-- a fault of this kind at this place
abbrev pub fault : {A : Type 0} → ℕ → DerKind → Result A DerFault
fault place kind = Err (record { place = place; kind = kind })

-- the next step, unless this one failed
infixl 10 ◌>>=◌
abbrev pub ◌>>=◌ : {A B F : Type 0} → Result A F → (A → Result B F) → Result B F
(Ok x) >>= f = f x
(Err e) >>= f = Err e

-- the step with the faults of another type
abbrev pub lift : {A E F : Type 0} → (E → F) → Result A E → Result A F
lift f (Ok x) = Ok x
lift f (Err e) = Err (f e)

-- What a function answered, seen by view, is what the definition gives: the same value or the same fault.
abbrev pub Gives : {X Y F : Type 0} → (X → Y) → Result X F → Result Y F → Type 0
Gives view (Ok x) given = given ≡ Ok (view x)
Gives view (Err e) given = given ≡ Err e

-- Reading bytes by a shape, from left to right: the parts, or the first fault.
use Rattle.std.specs.Prelude.{◌≡◌, ℕ, zero, suc, ◌+◌, Bool, true, false, List, [], ◌∷◌, length, Option, Some, None, Result, Ok, Err, ◌==◌, if◌then◌else◌}
use mathlib.Core.Logic.{inl, inr}
use Rattle.der_values.specs.declared.fault.DerFault.{DerFault}
use Rattle.der_values.specs.Input.{Input, Item}
use Rattle.der_values.specs.Steps.{◌>>=◌, lift}
use Rattle.der_values.specs.Next.{next_of, expect_of, is_empty, finish_of, contents}
use Rattle.der_values.specs.Typed.{integer_of, boolean_of, oid_of}
use Rattle.der_values.specs.Shape.{Tags, any_tag, tagged, Check, unchecked, is_integer, is_boolean, is_oid, checked, checked_whole, Shape, nothing_more, unread, required, optional, repeated, checkpoint, depending, Checks, Part, part, Parts}

-- ---- one value

-- the next value, which has to have such a tag
abbrev pub header : Tags → Input → Result (Item × Input) DerFault
header any_tag input = next_of input
header (tagged tag) input = expect_of tag input

-- whether a value with such a tag stands next
abbrev pub starts : Tags → List ℕ → Bool
starts tags [] = false
starts any_tag (b ∷ bs) = true
starts (tagged tag) (b ∷ bs) = b == tag

-- the next value where it has such a tag
unfoldable pub optional_of : Tags → Input → Result (Option Item × Input) DerFault
optional_of tags input = if starts tags input.left then (next_of input >>= λ v. Ok (Some v.0, v.1)) else Ok (None, input)

-- what was read, and the state after it
abbrev pub Reading : Type 0 → Type 0 → Type 0 → Type 0
Reading P S F = Result (P × S) F

-- the state stays, where there is no fault
abbrev pub passes : {A S F : Type 0} → (DerFault → F) → S → Result A DerFault → Result S F
passes der σ (Ok x) = Ok σ
passes der σ (Err e) = Err (der e)

-- the check that is made once the header was read
abbrev pub at_header : {C S F : Type 0} → Checks C S F → Check C → S → Item → Result S F
at_header k unchecked σ v = Ok σ
at_header k is_integer σ v = passes k.der σ (integer_of v)
at_header k is_boolean σ v = passes k.der σ (boolean_of v)
at_header k is_oid σ v = passes k.der σ (oid_of v)
at_header k (checked c) σ v = k.at_value c σ v
at_header k (checked_whole c) σ v = Ok σ

-- the check that is made once the contents were read
abbrev pub at_end : {C S F : Type 0} → Checks C S F → Check C → S → Item → Result S F
at_end k unchecked σ v = Ok σ
at_end k is_integer σ v = Ok σ
at_end k is_boolean σ v = Ok σ
at_end k is_oid σ v = Ok σ
at_end k (checked c) σ v = Ok σ
at_end k (checked_whole c) σ v = k.at_value c σ v

-- a value whose header was read
abbrev pub body : {C S F P : Type 0} → Checks C S F → (tags : Tags) → Check C → (S → Input → Reading P S F) → S → Item → Reading (Part tags P) S F
body k tags c inner σ v = at_header k c σ v >>= λ σ1. inner σ1 (contents v) >>= λ x. at_end k c x.1 v >>= λ τ. Ok (part tags v.tag x.0, τ)

-- an optional value whose header was read, where it is there
abbrev pub body_optional : {P S F : Type 0} → (S → Item → Reading P S F) → S → Option Item → Reading (Option P) S F
body_optional each σ None = Ok (None, σ)
body_optional each σ (Some v) = each σ v >>= λ x. Ok (Some x.0, x.1)

-- the check of an optional value whose contents are not read
abbrev pub check_optional : {C S F : Type 0} → Checks C S F → Check C → S → Option Item → Result S F
check_optional k c σ None = Ok σ
check_optional k c σ (Some v) = at_header k c σ v >>= λ σ1. at_end k c σ1 v

-- values up to the end; n is at least the number of bytes
abbrev pub read_each : {P S F : Type 0} → (DerFault → F) → Tags → (S → Item → Reading P S F) → ℕ → S → Input → Reading (List P) S F
read_each der tags each zero σ input = Ok ([], σ)
read_each der tags each (suc n) σ input =
    if is_empty input.left then Ok ([], σ)
    else (lift der (header tags input) >>= λ v. each σ v.0 >>= λ x. read_each der tags each n x.1 v.1 >>= λ y. Ok (x.0 ∷ y.0, y.1))

-- ---- a shape

-- where the input ends
abbrev pub end_of : Input → Input
end_of input = record { place = input.place + length input.left; left = [] }

-- this part, and those that follow
abbrev pub beside : {P Q S F : Type 0} → P → Reading Q S F → Reading (P × Q) S F
beside p r = r >>= λ y. Ok ((p, y.0), y.1)

-- the parts of one of two shapes
abbrev pub either : {P Q S F : Type 0} → (P → Q) → Reading P S F → Reading Q S F
either f r = r >>= λ x. Ok (f x.0, x.1)

-- the parts that the input has by a shape, with the state after them, or the first fault
unfoldable pub read : {C S F : Type 0} → Checks C S F → (s : Shape C) → S → Input → Reading (Parts s) S F
read k nothing_more σ input = lift k.der (finish_of input) >>= λ u. Ok (tt, σ)
read k unread σ input = Ok (input.left, σ)
read k (required tags c inner next) σ input = lift k.der (header tags input) >>= λ v. body k tags c (read k inner) σ v.0 >>= λ x. beside x.0 (read k next x.1 v.1)
read k (optional tags c inner next) σ input = lift k.der (optional_of tags input) >>= λ v. body_optional (body k tags c (read k inner)) σ v.0 >>= λ x. beside x.0 (read k next x.1 v.1)
read k (repeated tags c inner next) σ input = read_each k.der tags (body k tags c (read k inner)) (length input.left) σ input >>= λ x. beside x.0 (read k next x.1 (end_of input))
read k (checkpoint c next) σ input = k.at_point c σ input >>= λ σ1. read k next σ1 input
read k (depending c a b) σ input = if k.holds c σ then either inl (read k a σ input) else either inr (read k b σ input)

-- the first fault of the bytes, or none
abbrev pub first : {C S F : Type 0} → Checks C S F → Shape C → S → Input → Option F
first k s σ input = elim (read k s σ input) [ Ok x ↦ None | Err e ↦ Some e ]

-- ---- what a reader of the code answers

-- The reading gives parts, and v is what f names of them and of the state after them.
pub record Found {P V S F : Type 0} (f : P → S → V) (v : V) (r : Reading P S F) : Type 0 where
  pub parts : P
  pub state : S
  pub is : r ≡ Ok (parts, state)
  pub named : f parts state ≡ v

-- What is answered is what f names of the parts, or the first fault.
abbrev pub Finds : {P V X S F : Type 0} → (P → S → V) → (X → V) → Result X F → Reading P S F → Type 0
Finds f view (Ok x) r = Found f (view x) r
Finds f view (Err e) r = r ≡ Err e

-- Where a test of the fault holds, as that of want of memory, nothing is said of the bytes.
abbrev pub Unless : Bool → Type 0 → Type 0
Unless true P = Unit {0}
Unless false P = P

-- The same as Finds, unless the fault is free.
abbrev pub FindsUnless : {P V X S F : Type 0} → (F → Bool) → (P → S → V) → (X → V) → Result X F → Reading P S F → Type 0
FindsUnless free f view (Ok x) r = Found f (view x) r
FindsUnless free f view (Err e) r = Unless (free e) (r ≡ Err e)

-- What is answered is v, unless it is a free fault.
abbrev pub AnswersUnless : {V X F : Type 0} → (F → Bool) → (X → V) → V → Result X F → Type 0
AnswersUnless free view v (Ok x) = view x ≡ v
AnswersUnless free view v (Err e) = Unless (free e) ⊥

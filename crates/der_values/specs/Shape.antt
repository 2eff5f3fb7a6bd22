-- Shapes of DER values as plain data, what a reading of one gives, and the bytes that spell it.
use Rattle.std.specs.Prelude.{ℕ, Bool, List, [], ◌++◌, Option, Some, None, Result, ◌⊎◌}
use Rattle.std.specs.List.{flat_map}
use mathlib.Core.Logic.{inl, inr}
use Rattle.der_values.specs.declared.fault.DerFault.{DerFault}
use Rattle.der_values.specs.Input.{Input, Item}
use Rattle.der_values.specs.Value.{value}

-- the tags that a value may have
pub data Tags : Type 0 where
  any_tag : Tags
  tagged : ℕ → Tags

-- A check on a value: none, that of a type, or one of a crate's own by its name.
-- It is made once the header was read, and one of the last kind once the contents were read too.
pub data Check (C : Type 0) : Type 0 where
  unchecked : Check C
  is_integer : Check C
  is_boolean : Check C
  is_oid : Check C
  checked : C → Check C
  checked_whole : C → Check C

-- What stands in the contents of a value, by the names C of a crate's own checks.
pub data Shape (C : Type 0) : Type 0 where
  -- nothing more
  nothing_more : Shape C
  -- what is left is not read
  unread : Shape C
  -- a value with its check, its contents, and what follows it
  required : Tags → Check C → Shape C → Shape C → Shape C
  -- the same, there exactly where the next tag is one of its tags
  optional : Tags → Check C → Shape C → Shape C → Shape C
  -- such values up to the end, and what is checked there
  repeated : Tags → Check C → Shape C → Shape C → Shape C
  -- a check between two values
  checkpoint : C → Shape C → Shape C
  -- the first shape where the check's test holds, else the second
  depending : C → Shape C → Shape C → Shape C

-- What the names of a crate's checks mean, over a state S that the checks keep, with faults F.
pub record Checks (C S F : Type 0) : Type 0 where
  -- a fault of the encoding
  pub der : DerFault → F
  -- on a value
  pub at_value : C → S → Item → Result S F
  -- between two values
  pub at_point : C → S → Input → Result S F
  -- the test of a choice
  pub holds : C → S → Bool

-- ---- what a reading gives

-- the contents, and the tag where the shape leaves it open
abbrev pub Part : Tags → Type 0 → Type 0
Part any_tag P = ℕ × P
Part (tagged tag) P = P

-- the contents with their tag, where the shape leaves it open
abbrev pub part : {P : Type 0} → (tags : Tags) → ℕ → P → Part tags P
part any_tag tag p = (tag, p)
part (tagged t) tag p = p

-- what a reading by a shape gives: the parts of its values, in order
abbrev pub Parts : {C : Type 0} → Shape C → Type 0
Parts nothing_more = Unit {0}
Parts unread = List ℕ
Parts (required tags c inner next) = Part tags (Parts inner) × Parts next
Parts (optional tags c inner next) = Option (Part tags (Parts inner)) × Parts next
Parts (repeated tags c inner next) = List (Part tags (Parts inner)) × Parts next
Parts (checkpoint c next) = Parts next
Parts (depending c a b) = Parts a ⊎ Parts b

-- ---- the bytes that parts spell

abbrev pub spell_part : {P : Type 0} → (tags : Tags) → (P → List ℕ) → Part tags P → List ℕ
spell_part any_tag text p = value p.0 (text p.1)
spell_part (tagged tag) text p = value tag (text p)

abbrev pub spell_optional : {P : Type 0} → (P → List ℕ) → Option P → List ℕ
spell_optional text None = []
spell_optional text (Some p) = text p

unfoldable pub spell : {C : Type 0} → (s : Shape C) → Parts s → List ℕ
spell nothing_more p = []
spell unread p = p
spell (required tags c inner next) p = spell_part tags (spell inner) p.0 ++ spell next p.1
spell (optional tags c inner next) p = spell_optional (spell_part tags (spell inner)) p.0 ++ spell next p.1
spell (repeated tags c inner next) p = flat_map (spell_part tags (spell inner)) p.0 ++ spell next p.1
spell (checkpoint c next) p = spell next p
spell (depending c a b) (inl p) = spell a p
spell (depending c a b) (inr p) = spell b p

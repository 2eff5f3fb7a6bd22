-- Typed values, judged by their contents once their header was read. A fault is at the value's identifier octet.
use Rattle.std.specs.Prelude.{◌≡◌, ◌≢◌, ℕ, Bool, true, false, not, ◌&&◌, ◌||◌, List, [], ◌∷◌, Result, Ok, Err, nat_lt, nat_le, ◌==◌, if◌then◌else◌}
use Rattle.der_values.specs.declared.fault.DerFault.{DerFault}
use Rattle.der_values.specs.declared.fault.DerKind.TheVariants.{NotMinimal, BadValue}
use Rattle.der_values.specs.Input.{Item}
use Rattle.der_values.specs.Value.{Spells}
use Rattle.der_values.specs.Steps.{fault, ◌>>=◌, lift}
use Rattle.der_values.specs.Next.{is_empty}

-- The first nine bits are all zeros or all ones (X.690, 8.3.2).
abbrev pub has_excess : List ℕ → Bool
has_excess [] = false
has_excess (a ∷ []) = false
has_excess (a ∷ b ∷ bs) = (a == 0 && nat_lt b 128) || (a == 255 && nat_le 128 b)

-- INTEGER (X.690, 8.3): its contents, in the fewest octets
unfoldable pub integer_of : Item → Result (List ℕ) DerFault
integer_of v =
    if is_empty v.content then fault v.place BadValue
    else if has_excess v.content then fault v.place NotMinimal
    else Ok v.content

-- BOOLEAN (X.690, 8.2 and 11.1): one octet, 00 or ff
unfoldable pub boolean_of : Item → Result Bool DerFault
boolean_of v = boolean_at v.place v.content where
  boolean_at : ℕ → List ℕ → Result Bool DerFault
  boolean_at place [] = fault place BadValue
  boolean_at place (b ∷ []) = if b == 0 then Ok false else if b == 255 then Ok true else fault place BadValue
  boolean_at place (a ∷ b ∷ bs) = fault place BadValue

-- Subidentifiers (X.690, 8.19.2): the last octet of each, and it alone, is below 128, and none begins with 128.
-- Whether one begins at the front is said first.
abbrev pub are_subidentifiers : Bool → List ℕ → Bool
are_subidentifiers begins [] = begins
are_subidentifiers begins (b ∷ bs) = not (begins && b == 128) && are_subidentifiers (nat_lt b 128) bs

-- OBJECT IDENTIFIER (X.690, 8.19): its contents, at least one subidentifier
unfoldable pub oid_of : Item → Result (List ℕ) DerFault
oid_of v = if not (is_empty v.content) && are_subidentifiers true v.content then Ok v.content else fault v.place BadValue

-- whether the contents of an INTEGER are those of 1
abbrev pub is_one : List ℕ → Bool
is_one [] = false
is_one (b ∷ []) = b == 1
is_one (a ∷ b ∷ bs) = false

-- a version of which 1 is the only one: an INTEGER first, and then other is the fault where it is not 1
unfoldable pub version_of : {F : Type 0} → (DerFault → F) → F → Item → Result (Unit {0}) F
version_of der other v = lift der (integer_of v) >>= λ (content : List ℕ). if is_one content then Ok tt else Err other

-- ---- which bytes a writer may be given

-- the contents of an INTEGER, in the fewest octets (X.690, 8.3)
pub record IsInteger (content : List ℕ) : Type 0 where
  pub some : content ≢ []
  pub fewest : has_excess content ≡ false

-- the contents of an OBJECT IDENTIFIER (X.690, 8.19)
pub record IsOid (content : List ℕ) : Type 0 where
  pub some : content ≢ []
  pub whole : are_subidentifiers true content ≡ true

-- the bytes of one value, of whatever tag (X.690, 8.1)
pub record IsOneValue (bytes : List ℕ) : Type 0 where
  pub tag : ℕ
  pub content : List ℕ
  pub spells : Spells bytes tag content

-- the bytes of one value of this tag, whatever stands in it (X.690, 8.1)
pub record IsTagged (tag : ℕ) (bytes : List ℕ) : Type 0 where
  pub content : List ℕ
  pub spells : Spells bytes tag content

-- Reading the next value: the checks in their order, each with its fault and the place of that fault.
use Rattle.std.specs.Prelude.{ℕ, ◌+◌, ◌-◌, ◌^◌, ◌%◌, ◌<◌, Bool, true, false, List, [], ◌∷◌, length, take, drop, Result, Ok, nat_lt, ◌==◌, if◌then◌else◌}
use Rattle.der_values.specs.declared.fault.DerFault.{DerFault}
use Rattle.der_values.specs.declared.fault.DerKind.TheVariants.{Truncated, Indefinite, LongForm, HighTag, NotMinimal, Trailing, WrongTag}
use Rattle.der_values.specs.declared.tlv.Tlv.{Tlv}
use Rattle.der_values.specs.Input.{Input, Item}
use Rattle.der_values.specs.Value.{extra, number, value, Spells}
use Rattle.der_values.specs.Steps.{fault, ◌>>=◌}

-- A length of k octets after its first one, which stands at the place, and the bytes after it (X.690, 8.1.3.5).
-- The input ends at end: octets may be missing there, or be more than the fewest (10.1).
unfoldable pub long_length_at : ℕ → ℕ → ℕ → List ℕ → Result (ℕ × List ℕ) DerFault
long_length_at end place k bytes =
    if nat_lt (length bytes) k then fault end Truncated
    else if extra (number (take k bytes)) == k then Ok (number (take k bytes), drop k bytes)
    else fault place NotMinimal

-- A length at the place, and the bytes after it (X.690, 8.1.3). The indefinite form (8.1.3.6) is none of DER (10.1).
unfoldable pub length_at : ℕ → ℕ → List ℕ → Result (ℕ × List ℕ) DerFault
length_at end place [] = fault end Truncated
length_at end place (first ∷ bytes) =
    if nat_lt first 128 then Ok (first, bytes)
    else if first == 128 then fault place Indefinite
    else if nat_lt 132 first then fault place LongForm
    else long_length_at end place (first - 128) bytes

-- A value at the place, and the bytes after it (X.690, 8.1.1). A tag of all ones goes on in further octets (8.1.2.4).
unfoldable pub value_at : ℕ → List ℕ → Result (Item × List ℕ) DerFault
value_at place [] = fault place Truncated
value_at place (tag ∷ bytes) =
    if tag % 32 == 31 then fault place HighTag
    else length_at (place + 1 + length bytes) (place + 1) bytes >>= λ x.
    if nat_lt (length x.1) x.0 then fault (place + 1 + length bytes) Truncated
    else Ok (record { place = place; tag = tag; content = take x.0 x.1 }, drop x.0 x.1)

-- the next value, and the input after it
unfoldable pub next_of : Input → Result (Item × Input) DerFault
next_of input = value_at input.place input.left >>= λ x.
    Ok (x.0, record { place = input.place + length (value x.0.tag x.0.content); left = x.1 })

-- the next value, which has to be of this tag
unfoldable pub expect_of : ℕ → Input → Result (Item × Input) DerFault
expect_of tag input = next_of input >>= λ v. if v.0.tag == tag then Ok v else fault input.place WrongTag

-- nothing is left
abbrev pub is_empty : List ℕ → Bool
is_empty [] = true
is_empty (b ∷ bs) = false

-- nothing is left
unfoldable pub finish_of : Input → Result (Unit {0}) DerFault
finish_of input = if is_empty input.left then Ok tt else fault input.place Trailing

-- the contents of a value, as an input of its own
abbrev pub contents : Item → Input
contents v = record { place = v.place + (length (value v.tag v.content) - length v.content); left = v.content }

-- ---- a value in memory

-- what a Tlv says
abbrev pub seen : Tlv → Item
seen t = record { place = t.place; tag = t.tag; content = t.content.now }

-- The bytes that are kept as the whole value are the value of its tag and contents, and they end below 2 ^ 63.
pub record IsValue (t : Tlv) : Type 0 where
  pub whole : Spells t.whole.now t.tag t.content.now
  pub room : t.place + length t.whole.now < 2 ^ 63

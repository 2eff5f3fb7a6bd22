-- The one spelling of a value in DER: an identifier octet, the length in the fewest octets, the contents.
use Rattle.std.specs.Prelude.{◌≡◌, ◌≢◌, ℕ, zero, suc, ◌+◌, ◌*◌, ◌/◌, ◌%◌, ◌^◌, ◌<◌, List, [], ◌∷◌, ◌++◌, length, Option, Some, None, nat_lt, if◌then◌else◌}

-- the k low octets of n, the most significant first
abbrev pub octets : ℕ → ℕ → List ℕ
octets zero n = []
octets (suc k) n = (n / 256 ^ k) % 256 ∷ octets k n

-- the number that octets say, the most significant first
abbrev pub number : List ℕ → ℕ
number [] = 0
number (b ∷ bs) = b * 256 ^ length bs + number bs

-- how many octets of a length follow its first one: none in the short form, else the fewest that hold it (X.690, 8.1.3.4, 8.1.3.5, 10.1)
unfoldable pub extra : ℕ → ℕ
extra n =
    if nat_lt n 128 then 0
    else if nat_lt n (2 ^ 8) then 1
    else if nat_lt n (2 ^ 16) then 2
    else if nat_lt n (2 ^ 24) then 3
    else 4

-- the octets of a length below 2 ^ 32 (X.690, 8.1.3.4, 8.1.3.5)
unfoldable pub length_octets : ℕ → List ℕ
length_octets n = if nat_lt n 128 then n ∷ [] else (128 + extra n) ∷ octets (extra n) n

-- the octets of a value (X.690, 8.1.1)
unfoldable pub value : ℕ → List ℕ → List ℕ
value tag content = tag ∷ length_octets (length content) ++ content

-- The bytes are the value of this tag, which is one octet (X.690, 8.1.2.2), and of these contents.
pub record Spells (bytes : List ℕ) (tag : ℕ) (content : List ℕ) : Type 0 where
  pub low_tag : tag % 32 ≢ 31
  pub short : length content < 2 ^ 32
  pub is : bytes ≡ value tag content

-- the bytes of an optional part: none where it is absent
abbrev pub bytes_or_none : Option (List ℕ) → List ℕ
bytes_or_none None = []
bytes_or_none (Some bytes) = bytes

-- The bytes begin with a value.
pub record BeginsWithValue (bytes : List ℕ) : Type 0 where
  pub tag : ℕ
  pub content : List ℕ
  pub whole : List ℕ
  pub after : List ℕ
  pub spells : Spells whole tag content
  pub is : bytes ≡ whole ++ after

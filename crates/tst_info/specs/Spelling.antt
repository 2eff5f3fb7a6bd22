-- How parts that may be absent are written.
use Rattle.std.specs.Prelude.{ℕ, Bool, true, false, List, [], ◌∷◌, Option, Some, None}
use Rattle.der_values.specs.Value.{value}

-- BOOLEAN DEFAULT FALSE (X.690, 11.1, 11.5)
abbrev pub flag_text : Bool → List ℕ
flag_text false = []
flag_text true = value 0x01 (0xff ∷ [])

-- INTEGER OPTIONAL
abbrev pub nonce_text : Option (List ℕ) → List ℕ
nonce_text None = []
nonce_text (Some nonce) = value 0x02 nonce

-- The words of a policy text, and which of them are of their shape.
use Rattle.std.specs.Prelude.{ℕ, ◌%◌, ◌==◌, Bool, false, ◌&&◌, ◌||◌, nat_lt, nat_le, List, [], length, is_none, Result, Ok, Err}
use Rattle.std.specs.List.{list_all}
use Rattle.std.specs.Char.{is_ascii_lowercase, is_ascii_digit}
use Rattle.std.specs.Result.{result_unwrap_or}
use Rattle.civil_moment.specs.Fault.{first_fault as time_fault}
use Rattle.der_values.specs.declared.fault.DerFault.{DerFault}
use Rattle.der_values.specs.Input.{Input, Item}
use Rattle.der_values.specs.Next.{is_empty, next_of}
use Rattle.hash_kit.specs.HssKey.{key_fault}
use Rattle.hex.specs.Hex.{decode_of}

-- ---- names, of 1 to 32 of a to z, 0 to 9 and the hyphen

abbrev pub is_name_byte : ℕ → Bool
is_name_byte b = is_ascii_lowercase b || is_ascii_digit b || (b == 45)

abbrev pub is_name : List ℕ → Bool
is_name word = nat_lt 0 (length word) && nat_le (length word) 32 && list_all is_name_byte word

-- ---- bytes, in lower-case hexadecimal digits, two a byte

abbrev pub is_lower_digit : ℕ → Bool
is_lower_digit b = is_ascii_digit b || (nat_le 97 b && nat_le b 102)

abbrev pub is_hex : List ℕ → Bool
is_hex word = (length word % 2 == 0) && list_all is_lower_digit word

-- the bytes of a word of that shape
unfoldable pub bytes_of : List ℕ → List ℕ
bytes_of word = result_unwrap_or (decode_of word) []

-- ---- what these bytes have to be

-- a value of tag 30 or 80, and nothing after it
abbrev pub is_named_alone : Result (Item × Input) DerFault → Bool
is_named_alone (Ok x) = ((x.0.tag == 48) || (x.0.tag == 128)) && is_empty x.1.left
is_named_alone (Err e) = false

-- a SignerIdentifier (RFC 5652, 5.3), issuerAndSerialNumber or subjectKeyIdentifier, of at most 1,024 bytes
unfoldable pub is_sid : List ℕ → Bool
is_sid bytes = nat_le (length bytes) 1024 && is_named_alone (next_of (record { place = 0; left = bytes }))

-- an HSS public key (RFC 8554, 6.1)
unfoldable pub is_key : List ℕ → Bool
is_key bytes = is_none (key_fault bytes)

-- the SHA-256 of a certificate
abbrev pub is_cert : List ℕ → Bool
is_cert bytes = length bytes == 32

-- a generalized time (X.690, 11.7)
unfoldable pub is_time : List ℕ → Bool
is_time word = is_none (time_fault word)

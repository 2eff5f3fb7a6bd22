-- The definitions at values from outside, so that a wrong rule in the specs does not check.
use Rattle.std.proofs.Common.{◌≡◌, ℕ, ◌^◌, List, [], ◌∷◌, true, false, Some, None, Ok, Err, refl}
use Rattle.std.specs.Prelude.{replicate}
use Rattle.std.specs.declared.cmp.Ordering.TheVariants.{Less, Equal, Greater}
use Rattle.der_values.specs.declared.fault.DerFault.{DerFault}
use Rattle.der_values.specs.declared.fault.DerKind.TheVariants.{Truncated, Indefinite, LongForm, HighTag, NotMinimal, Trailing, WrongTag, BadValue}
use Rattle.der_values.specs.Input.{Item}
use Rattle.der_values.specs.Value.{extra, length_octets, value}
use Rattle.der_values.specs.Steps.{fault}
use Rattle.der_values.specs.Next.{long_length_at, length_at, value_at, next_of, expect_of, finish_of}
use Rattle.der_values.specs.Typed.{integer_of, boolean_of, oid_of, version_of}
use Rattle.der_values.specs.Order.{set_order_of}
use Rattle.der_values.specs.Reading.{read, optional_of}
use Rattle.der_values.specs.Grammar.{from_start}
use Rattle.der_values.specs.Algorithm.{algorithm_of, name_contents, are_none_or_null}

-- A length of 201 is 81 c9 (X.690, 8.1.3.5). The short form ends at 127 (8.1.3.4), one further octet at 255.
pub known_lengths : (length_octets 201 ≡ 129 ∷ 201 ∷ []) × (length_octets 127 ≡ 127 ∷ []) × (length_octets 128 ≡ 129 ∷ 128 ∷ [])
    × (length_octets 255 ≡ 129 ∷ 255 ∷ []) × (length_octets 256 ≡ 130 ∷ 1 ∷ 0 ∷ []) × (length_octets (2 ^ 24) ≡ 132 ∷ 1 ∷ 0 ∷ 0 ∷ 0 ∷ [])
unfolding length_octets extra
known_lengths = (refl, refl, refl, refl, refl, refl)

-- an OCTET STRING of 200 bytes begins 04 81 c8; BOOLEAN TRUE is 01 01 ff (8.2.2, 11.1); the OID 2.100.3 is 06 03 81 34 03 (8.19.5)
pub known_values : (value 4 (replicate 200 7) ≡ 4 ∷ 129 ∷ 200 ∷ replicate 200 7) × (value 1 (255 ∷ []) ≡ 1 ∷ 1 ∷ 255 ∷ [])
    × (value 6 (129 ∷ 52 ∷ 3 ∷ []) ≡ 6 ∷ 3 ∷ 129 ∷ 52 ∷ 3 ∷ [])
unfolding value length_octets extra
known_values = (refl, refl, refl)

-- 1f 01 · 30 80 · 04 85 · 04 81 05 and five bytes · 04 05 00 · 24 03 04 01 00 as an OCTET STRING (constructed strings: 10.2)
pub known_header_faults : (next_of (from_start (31 ∷ 1 ∷ [])) ≡ fault 0 HighTag)
    × (next_of (from_start (48 ∷ 128 ∷ [])) ≡ fault 1 Indefinite)
    × (next_of (from_start (4 ∷ 133 ∷ [])) ≡ fault 1 LongForm)
    × (next_of (from_start (4 ∷ 129 ∷ 5 ∷ 1 ∷ 2 ∷ 3 ∷ 4 ∷ 5 ∷ [])) ≡ fault 1 NotMinimal)
    × (next_of (from_start (4 ∷ 5 ∷ 0 ∷ [])) ≡ fault 3 Truncated)
    × (expect_of 4 (from_start (36 ∷ 3 ∷ 4 ∷ 1 ∷ 0 ∷ [])) ≡ fault 0 WrongTag)
    × (finish_of (record { place = 7; left = 5 ∷ 0 ∷ [] }) ≡ fault 7 Trailing)
unfolding next_of expect_of finish_of value_at length_at long_length_at extra
known_header_faults = (refl, refl, refl, refl, refl, refl, refl)

abbrev other : DerFault
other = record { place = 9; kind = BadValue }

abbrev item : List ℕ → Item
item content = record { place = 0; tag = 0; content = content }

-- INTEGER (8.3.2), BOOLEAN (8.2.2, 11.1), OBJECT IDENTIFIER (8.19.2, 8.19.5)
pub known_typed_values : (integer_of (item (0 ∷ 1 ∷ [])) ≡ fault 0 NotMinimal) × (integer_of (item (0 ∷ 128 ∷ [])) ≡ Ok (0 ∷ 128 ∷ []))
    × (integer_of (item (255 ∷ 128 ∷ [])) ≡ fault 0 NotMinimal) × (integer_of (item []) ≡ fault 0 BadValue)
    × (boolean_of (item (1 ∷ [])) ≡ fault 0 BadValue) × (boolean_of (item (255 ∷ [])) ≡ Ok true)
    × (oid_of (item (129 ∷ 52 ∷ 3 ∷ [])) ≡ Ok (129 ∷ 52 ∷ 3 ∷ [])) × (oid_of (item (128 ∷ 1 ∷ [])) ≡ fault 0 BadValue)
    × (oid_of (item (42 ∷ 134 ∷ [])) ≡ fault 0 BadValue)
unfolding integer_of boolean_of oid_of
known_typed_values = (refl, refl, refl, refl, refl, refl, refl, refl, refl)

-- the padding with zero bytes (11.6)
pub known_orders : (set_order_of (1 ∷ []) (1 ∷ 0 ∷ []) ≡ Equal) × (set_order_of (1 ∷ 0 ∷ 1 ∷ []) (1 ∷ []) ≡ Greater)
    × (set_order_of (1 ∷ 2 ∷ []) (1 ∷ 3 ∷ []) ≡ Less)
unfolding set_order_of
known_orders = (refl, refl, refl)

-- the contents of id-sha256 with NULL parameters (RFC 5754, 2.2); parameters 05 01 00 are no NULL
pub known_names : (name_contents (record { oid = 96 ∷ 134 ∷ 72 ∷ 1 ∷ 101 ∷ 3 ∷ 4 ∷ 2 ∷ 1 ∷ []; params = Some (5 ∷ 0 ∷ []) }) ≡ 6 ∷ 9 ∷ 96 ∷ 134 ∷ 72 ∷ 1 ∷ 101 ∷ 3 ∷ 4 ∷ 2 ∷ 1 ∷ 5 ∷ 0 ∷ [])
    × (name_contents (record { oid = 42 ∷ []; params = None }) ≡ 6 ∷ 1 ∷ 42 ∷ [])
    × (are_none_or_null None ≡ true) × (are_none_or_null (Some (5 ∷ 0 ∷ [])) ≡ true) × (are_none_or_null (Some (5 ∷ 1 ∷ 0 ∷ [])) ≡ false)
unfolding value length_octets
known_names = (refl, refl, refl, refl, refl)

-- a version of 1, of 2, and of 1 in two octets
pub known_versions : (version_of (λ e. e) other (item (1 ∷ [])) ≡ Ok tt) × (version_of (λ e. e) other (item (2 ∷ [])) ≡ Err other)
    × (version_of (λ e. e) other (item (0 ∷ 1 ∷ [])) ≡ fault 0 NotMinimal)
unfolding version_of integer_of
known_versions = (refl, refl, refl)

-- id-sha256 with NULL parameters (RFC 5754, 2.2), and with one value more
pub known_algorithm : (algorithm_of (from_start (6 ∷ 9 ∷ 96 ∷ 134 ∷ 72 ∷ 1 ∷ 101 ∷ 3 ∷ 4 ∷ 2 ∷ 1 ∷ 5 ∷ 0 ∷ [])) ≡ Ok ((96 ∷ 134 ∷ 72 ∷ 1 ∷ 101 ∷ 3 ∷ 4 ∷ 2 ∷ 1 ∷ [], (Some (5, []), tt)), tt))
    × (algorithm_of (from_start (6 ∷ 1 ∷ 42 ∷ 5 ∷ 0 ∷ 5 ∷ 0 ∷ [])) ≡ fault 5 Trailing)
unfolding algorithm_of read expect_of optional_of finish_of next_of value_at length_at oid_of value length_octets
known_algorithm = (refl, refl)

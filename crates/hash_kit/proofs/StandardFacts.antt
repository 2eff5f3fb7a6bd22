-- Worked values of the definitions, from the standards, so that a wrong rule in the specs does not check.
use Rattle.std.proofs.Common.{◌≡◌, ℕ, ◌+◌, ◌-◌, ◌*◌, List, [], ◌∷◌, map, refl, if◌then◌else◌}
use Rattle.std.specs.Prelude.{Some, None, codes, nat_lt, replicate}
use Rattle.hash_kit.specs.declared.algorithm.HashAlg.TheVariants.{Sha256, Sha384, Sha512}
use Rattle.hash_kit.specs.Algorithm.{algorithms, place_of, oid_of, algorithm_of, algorithm_named}
use Rattle.hash_kit.specs.Digest.{size_of}
use Rattle.hash_kit.specs.HssKey.{levels_of, top_key_of, lms_type_of, ots_type_of, key_fault}
use Rattle.hash_kit.specs.Node.{ascending, node_of}
use Rattle.hash_kit.specs.declared.key.KeyFault.TheVariants.{KeyShape, Levels}

-- the numbers of an object identifier below its first two (X.690, 8.19)
abbrev numbers : ℕ → List ℕ → List ℕ
numbers part [] = []
numbers part (octet ∷ rest) =
    if nat_lt octet 128 then (part * 128 + octet) ∷ numbers 0 rest else numbers (part * 128 + (octet - 128)) rest

-- 2.16.840.1.101.3.4.2.1 and its kin (NIST's registry of algorithms; 2 * 40 + 16 = 96)
sha256_name : numbers 0 (oid_of Sha256) ≡ 96 ∷ 840 ∷ 1 ∷ 101 ∷ 3 ∷ 4 ∷ 2 ∷ 1 ∷ []
sha256_name = refl

sha384_name : numbers 0 (oid_of Sha384) ≡ 96 ∷ 840 ∷ 1 ∷ 101 ∷ 3 ∷ 4 ∷ 2 ∷ 2 ∷ []
sha384_name = refl

sha512_name : numbers 0 (oid_of Sha512) ≡ 96 ∷ 840 ∷ 1 ∷ 101 ∷ 3 ∷ 4 ∷ 2 ∷ 3 ∷ []
sha512_name = refl

-- the name of SHA-224, one that is cut off, and none
sha224_unknown : algorithm_of (0x60 ∷ 0x86 ∷ 0x48 ∷ 0x01 ∷ 0x65 ∷ 0x03 ∷ 0x04 ∷ 0x02 ∷ 0x04 ∷ []) ≡ None
sha224_unknown = refl

cut_unknown : algorithm_of (0x60 ∷ 0x86 ∷ 0x48 ∷ 0x01 ∷ 0x65 ∷ 0x03 ∷ 0x04 ∷ 0x02 ∷ []) ≡ None
cut_unknown = refl

sha384_known : algorithm_of (0x60 ∷ 0x86 ∷ 0x48 ∷ 0x01 ∷ 0x65 ∷ 0x03 ∷ 0x04 ∷ 0x02 ∷ 0x02 ∷ []) ≡ Some Sha384
sha384_known = refl

-- the words, in lower case alone, and the order
words_named : map algorithm_named (codes "sha256" ∷ codes "sha384" ∷ codes "sha512" ∷ codes "SHA256" ∷ codes "sha1" ∷ []) ≡ Some Sha256 ∷ Some Sha384 ∷ Some Sha512 ∷ None ∷ None ∷ []
words_named = refl

places : map place_of algorithms ≡ 0 ∷ 1 ∷ 2 ∷ []
places = refl

-- the sizes in bits (FIPS 180-4, figure 1)
bits_256 : size_of Sha256 * 8 ≡ 256
bits_256 = refl

bits_384 : size_of Sha384 * 8 ≡ 384
bits_384 = refl

bits_512 : size_of Sha512 * 8 ≡ 512
bits_512 = refl

-- a prefix comes first, the first byte decides before the length does, and a repeated value stays
ascends : ascending ((2 ∷ []) ∷ (1 ∷ 9 ∷ []) ∷ (1 ∷ []) ∷ (2 ∷ []) ∷ (0 ∷ 0 ∷ 0 ∷ []) ∷ []) ≡ (0 ∷ 0 ∷ 0 ∷ []) ∷ (1 ∷ []) ∷ (1 ∷ 9 ∷ []) ∷ (2 ∷ []) ∷ (2 ∷ []) ∷ []
ascends = refl

-- a single value isn't hashed (RFC 4998, 4.2)
single : node_of Sha512 ((7 ∷ 7 ∷ []) ∷ []) ≡ 7 ∷ 7 ∷ []
single = refl

-- HSS public keys: two levels, LMS with h = 10, LM-OTS with w = 8 (RFC 8554, 4.1, 5.1, 6.1), and an identifier and a
-- root of 48 bytes
abbrev key : ℕ → ℕ → ℕ → ℕ → List ℕ
key levels lms_type ots_type count =
    0 ∷ 0 ∷ 0 ∷ levels ∷ 0 ∷ 0 ∷ 0 ∷ lms_type ∷ 0 ∷ 0 ∷ 0 ∷ ots_type ∷ replicate count 7

key_taken : key_fault (key 2 6 4 48) ≡ None
key_taken = refl

parts : (levels_of (key 2 6 4 48) ≡ 2) × (lms_type_of (top_key_of (key 2 6 4 48)) ≡ 6) × (ots_type_of (top_key_of (key 2 6 4 48)) ≡ 4)
parts = (refl, refl, refl)

-- 59 and 61 bytes, types of other sets (SP 800-208 gives 10 to LMS with 24 bytes, 5 to LM-OTS), and no level, or nine
short_key : key_fault (key 2 6 4 47) ≡ Some KeyShape
short_key = refl

long_key : key_fault (key 2 6 4 49) ≡ Some KeyShape
long_key = refl

other_types : (key_fault (key 2 4 4 48) ≡ Some KeyShape) × (key_fault (key 2 10 4 48) ≡ Some KeyShape) × (key_fault (key 2 6 0 48) ≡ Some KeyShape) × (key_fault (key 2 6 5 48) ≡ Some KeyShape)
other_types = (refl, refl, refl, refl)

other_levels : (key_fault (key 0 6 4 48) ≡ Some Levels) × (key_fault (key 9 6 4 48) ≡ Some Levels) × (key_fault (key 1 6 4 48) ≡ None) × (key_fault (key 8 6 4 48) ≡ None)
other_levels = (refl, refl, refl, refl)

-- the shape is tried first
shape_first : key_fault (key 9 10 4 48) ≡ Some KeyShape
shape_first = refl

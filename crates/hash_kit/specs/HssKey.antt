-- The public keys of LMS and HSS as bytes (RFC 8554, sections 5.3 and 6.1), for the types with SHA-256 and values of
-- 32 bytes.
use Rattle.std.specs.Prelude.{ℕ, Bool, not, ◌&&◌, ◌==◌, nat_lt, List, length, take, drop, Option, Some, None, if◌then◌else◌}
use Rattle.std.specs.Int.{w32, from_be_bytes}
use Rattle.hash_kit.specs.declared.key.KeyFault.{KeyFault}
use Rattle.hash_kit.specs.declared.key.KeyFault.TheVariants.{KeyShape, Levels}

-- the number in the four bytes from this place on, the greatest byte first (3.1)
abbrev pub u32_at : ℕ → List ℕ → ℕ
u32_at place bytes = from_be_bytes w32 (drop place bytes)

-- an LMS public key: the type, the LM-OTS type, the identifier I and the root T[1] (5.3)
abbrev pub lms_type_of : List ℕ → ℕ
lms_type_of key = u32_at 0 key

-- the LM-OTS type of an LMS public key (5.3)
abbrev pub ots_type_of : List ℕ → ℕ
ots_type_of key = u32_at 4 key

-- its identifier I (5.3)
abbrev pub identifier_of : List ℕ → List ℕ
identifier_of key = take 16 (drop 8 key)

-- its root T[1] (5.3)
abbrev pub root_of : List ℕ → List ℕ
root_of key = take 32 (drop 24 key)

-- lms_sha256_m32_h5 to lms_sha256_m32_h25 (5.1, table 2)
abbrev pub is_lms_type : ℕ → Bool
is_lms_type n = nat_lt 4 n && nat_lt n 10

-- lmots_sha256_n32_w1 to lmots_sha256_n32_w8 (4.1, table 1)
abbrev pub is_ots_type : ℕ → Bool
is_ots_type n = nat_lt 0 n && nat_lt n 5

-- both types are known
abbrev pub has_types : List ℕ → Bool
has_types key = is_lms_type (lms_type_of key) && is_ots_type (ots_type_of key)

-- 56 bytes, and both types are known
abbrev pub is_lms_key : List ℕ → Bool
is_lms_key key = (length key == 56) && has_types key

-- an HSS public key: the number of levels L, and the LMS public key of the top tree (6.1)
abbrev pub levels_of : List ℕ → ℕ
levels_of key = u32_at 0 key

-- the LMS public key of the top tree (6.1)
abbrev pub top_key_of : List ℕ → List ℕ
top_key_of key = drop 4 key

-- 60 bytes, and both types are known
abbrev pub has_key_shape : List ℕ → Bool
has_key_shape key = (length key == 60) && has_types (top_key_of key)

-- 1 to 8 levels (6)
abbrev pub has_levels : List ℕ → Bool
has_levels key = nat_lt 0 (levels_of key) && nat_lt (levels_of key) 9

-- what is first wrong with an HSS public key
abbrev pub key_fault : List ℕ → Option KeyFault
key_fault key =
    if not (has_key_shape key) then Some KeyShape
    else (if not (has_levels key) then Some Levels else None)

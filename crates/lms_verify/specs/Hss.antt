-- Signatures of a hierarchy of trees, HSS (RFC 8554, section 6).
use Rattle.std.specs.Prelude.{ℕ, zero, suc, ◌+◌, ◌==◌, Bool, ◌&&◌, nat_le, List, length, take, drop, IsTrue}
use Rattle.hash_kit.specs.HssKey.{u32_at, levels_of, top_key_of}
use Rattle.lms_verify.specs.Lms.{size_of, lms_verifies}

-- a signed public key: the LMS signature, and the LMS public key of 56 bytes that it signs (6.2)
abbrev pub next_key : List ℕ → List ℕ → List ℕ
next_key key signature = take 56 (drop (size_of key) signature)

-- what stands behind it
abbrev pub behind_next : List ℕ → List ℕ → List ℕ
behind_next key signature = drop (size_of key + 56) signature

-- it is there, and signed under the key before it (6.3)
unfoldable pub next_is_signed : List ℕ → List ℕ → Bool
next_is_signed key signature =
    nat_le (size_of key + 56) (length signature)
    && lms_verifies key (next_key key signature) (take (size_of key) signature)

-- so many signed public keys, each under the key before it, and the message under the last (6.3)
unfoldable pub levels_verify : ℕ → List ℕ → List ℕ → List ℕ → Bool
levels_verify zero key message signature = lms_verifies key message signature
levels_verify (suc count) key message signature =
    next_is_signed key signature
    && levels_verify count (next_key key signature) message (behind_next key signature)

-- Nspk + 1 is the key's number of levels, and the levels verify (6.3)
unfoldable pub hss_verifies : List ℕ → List ℕ → List ℕ → Bool
hss_verifies key message signature =
    nat_le 4 (length signature)
    && (u32_at 0 signature + 1 == levels_of key)
    && levels_verify (u32_at 0 signature) (top_key_of key) message (drop 4 signature)

-- the signature of the message verifies under the HSS public key
abbrev pub Verifies : List ℕ → List ℕ → List ℕ → Type 0
Verifies key message signature = IsTrue (hss_verifies key message signature)

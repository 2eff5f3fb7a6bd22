-- Digests one after the other.
use Rattle.std.specs.Prelude.{ℕ, zero, suc, List, ◌++◌, replicate}
use Rattle.sha2.specs.Sha256.{sha256}

-- a value, and 32 zeros
abbrev pub padded : List ℕ → List ℕ
padded value = value ++ replicate 32 0

-- the digest of a padded value (FIPS 180-4, 6.2)
abbrev pub padded_digest : List ℕ → List ℕ
padded_digest value = sha256 (padded value)

-- the digest of the digest of .. a value, so many times
unfoldable pub chained : (List ℕ → List ℕ) → ℕ → List ℕ → List ℕ
chained digest zero value = value
chained digest (suc count) value = chained digest count (digest value)

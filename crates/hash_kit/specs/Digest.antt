-- The digests that the archive knows, by the functions of the Secure Hash Standard (FIPS 180-4).
use Rattle.std.specs.Prelude.{ℕ, List}
use Rattle.sha2.specs.Sha256.{sha256}
use Rattle.sha2.specs.Sha512.{sha384, sha512}
use Rattle.hash_kit.specs.declared.algorithm.HashAlg.{HashAlg}
use Rattle.hash_kit.specs.declared.algorithm.HashAlg.TheVariants.{Sha256, Sha384, Sha512}

-- the digest of a message (6.2, 6.4, 6.5)
abbrev pub digest_of : HashAlg → List ℕ → List ℕ
digest_of Sha256 m = sha256 m
digest_of Sha384 m = sha384 m
digest_of Sha512 m = sha512 m

-- its length in bytes (figure 1)
abbrev pub size_of : HashAlg → ℕ
size_of Sha256 = 32
size_of Sha384 = 48
size_of Sha512 = 64

-- The length of a digest.
use Rattle.std.proofs.Common.{◌≡◌, ℕ, List, length}
use Rattle.sha2.proofs.Facts256.{length-sha256}
use Rattle.sha2.proofs.Facts512.{length-sha384, length-sha512}
use Rattle.hash_kit.specs.Digest.{digest_of, size_of}
use Rattle.hash_kit.specs.declared.algorithm.HashAlg.{HashAlg}
use Rattle.hash_kit.specs.declared.algorithm.HashAlg.TheVariants.{Sha256, Sha384, Sha512}

pub length-digest_of : (alg : HashAlg) (m : List ℕ) → length (digest_of alg m) ≡ size_of alg
length-digest_of Sha256 m = length-sha256 m
length-digest_of Sha384 m = length-sha384 m
length-digest_of Sha512 m = length-sha512 m

-- The leaves of a time-stamp renewal (RFC 4998, 5.2): what is covered anew is the time-stamp of each chain.
use Rattle.std.specs.Prelude.{ℕ, List, map}
use Rattle.hash_kit.specs.declared.algorithm.HashAlg.{HashAlg}
use Rattle.hash_kit.specs.Digest.{digest_of}

-- the digest of each token
abbrev pub digests_of : HashAlg → List (List ℕ) → List (List ℕ)
digests_of alg tokens = map (digest_of alg) tokens

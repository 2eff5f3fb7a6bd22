-- What a hasher has taken in so far.
use Rattle.std.specs.Prelude.{◌≡◌, ℕ, List}
use Rattle.sha2.specs.Hashers.{Holds256, Holds384, Holds512}
use Rattle.hash_kit.specs.declared.algorithm.HashAlg.{HashAlg}
use Rattle.hash_kit.specs.declared.algorithm.HashAlg.TheVariants.{Sha256, Sha384, Sha512}
use Rattle.hash_kit.specs.declared.hashing.Hasher.{Hasher}
use Rattle.hash_kit.specs.declared.hashing.State.{State}
use Rattle.hash_kit.specs.declared.hashing.State.TheVariants.{Sha256 as State256, Sha384 as State384, Sha512 as State512}

-- a hasher of the library for this algorithm has taken in this message
abbrev pub IsState : State → HashAlg → List ℕ → Type 0
IsState (State256 hasher) alg message = (alg ≡ Sha256) × Holds256 hasher message
IsState (State384 hasher) alg message = (alg ≡ Sha384) × Holds384 hasher message
IsState (State512 hasher) alg message = (alg ≡ Sha512) × Holds512 hasher message

-- the hasher hashes by this algorithm, and has taken in this message
abbrev pub Hashes : Hasher → HashAlg → List ℕ → Type 0
Hashes hasher alg message = IsState hasher.state alg message

-- The names of the hash algorithms (RFC 5754, section 2), and their order.
use Rattle.std.specs.Prelude.{ℕ, List, [], ◌∷◌, codes, nat_eq, find}
use Rattle.std.specs.Cmp.Lexicographic.{pointwise}
use Rattle.std.specs.Str.{bytes_eq}
use Rattle.std.specs.declared.option.Option.{Option}
use Rattle.hash_kit.specs.declared.algorithm.HashAlg.{HashAlg}
use Rattle.hash_kit.specs.declared.algorithm.HashAlg.TheVariants.{Sha256, Sha384, Sha512}

-- all of them, in the order in which they are listed
abbrev pub algorithms : List HashAlg
algorithms = Sha256 ∷ Sha384 ∷ Sha512 ∷ []

-- the place of an algorithm in that order
abbrev pub place_of : HashAlg → ℕ
place_of Sha256 = 0
place_of Sha384 = 1
place_of Sha512 = 2

-- the contents octets of its object identifier, 2.16.840.1.101.3.4.2.1 to 3
abbrev pub oid_of : HashAlg → List ℕ
oid_of Sha256 = 0x60 ∷ 0x86 ∷ 0x48 ∷ 0x01 ∷ 0x65 ∷ 0x03 ∷ 0x04 ∷ 0x02 ∷ 0x01 ∷ []
oid_of Sha384 = 0x60 ∷ 0x86 ∷ 0x48 ∷ 0x01 ∷ 0x65 ∷ 0x03 ∷ 0x04 ∷ 0x02 ∷ 0x02 ∷ []
oid_of Sha512 = 0x60 ∷ 0x86 ∷ 0x48 ∷ 0x01 ∷ 0x65 ∷ 0x03 ∷ 0x04 ∷ 0x02 ∷ 0x03 ∷ []

-- the algorithm whose object identifier has these contents octets
abbrev pub algorithm_of : List ℕ → Option HashAlg
algorithm_of oid = find (λ alg. pointwise nat_eq oid (oid_of alg)) algorithms

-- the word that names it in a text
abbrev pub word_of : HashAlg → List ℕ
word_of Sha256 = codes "sha256"
word_of Sha384 = codes "sha384"
word_of Sha512 = codes "sha512"

-- the algorithm that a word names
abbrev pub algorithm_named : List ℕ → Option HashAlg
algorithm_named word = find (λ alg. bytes_eq word (word_of alg)) algorithms

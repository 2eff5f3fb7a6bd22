-- The node over a list of hash values (RFC 4998, section 4.2, steps 2 and 3).
use Rattle.std.specs.Prelude.{ℕ, List, [], ◌∷◌, if◌then◌else◌}
use Rattle.std.specs.List.{concat}
use Rattle.std.specs.Ordering.{nat_cmp, is_le}
use Rattle.std.specs.Cmp.Lexicographic.{slice_cmp}
use Rattle.std.specs.declared.cmp.Ordering.{Ordering}
use Rattle.hash_kit.specs.declared.algorithm.HashAlg.{HashAlg}
use Rattle.hash_kit.specs.Digest.{digest_of}

-- the order of byte strings: the first byte that differs decides, and a prefix comes first
abbrev pub bytes_cmp : List ℕ → List ℕ → Ordering
bytes_cmp = slice_cmp nat_cmp

-- an ascending list with one value more
abbrev pub with_value : List ℕ → List (List ℕ) → List (List ℕ)
with_value value [] = value ∷ []
with_value value (next ∷ rest) =
    if is_le (bytes_cmp value next) then value ∷ next ∷ rest else next ∷ with_value value rest

-- the values in ascending order, each as often as it stands
abbrev pub ascending : List (List ℕ) → List (List ℕ)
ascending [] = []
ascending (value ∷ rest) = with_value value (ascending rest)

-- a single value is its own node; else it is the digest of the values in ascending order, joined
abbrev pub node_of : HashAlg → List (List ℕ) → List ℕ
node_of alg (value ∷ []) = value
node_of alg values = digest_of alg (concat (ascending values))

-- Hash trees over a list of leaves (RFC 4998, sections 4.1 and 4.2), by halves (as RFC 6962, section 2.1, splits them).
use Rattle.std.specs.Prelude.{ℕ, zero, suc, ◌+◌, ◌-◌, ◌*◌, ◌/◌, nat_lt, List, [], ◌∷◌, ◌++◌, length, take, drop, if◌then◌else◌}
use Rattle.hash_kit.specs.declared.algorithm.HashAlg.{HashAlg}
use Rattle.hash_kit.specs.Node.{node_of}

-- the largest power of two below the number, from 2 on: twice that of the half, rounded up
unfoldable pub power_within : ℕ → ℕ → ℕ
power_within zero n = 1
power_within (suc fuel) n = if nat_lt 2 n then 2 * power_within fuel ((n + 1) / 2) else 1

-- the largest power of two below the number, from 2 on
abbrev pub power_below : ℕ → ℕ
power_below n = power_within n n

-- the leaves of the left half, and of the right one
abbrev pub left_half : List (List ℕ) → List (List ℕ)
left_half leaves = take (power_below (length leaves)) leaves

-- the leaves of the right half
abbrev pub right_half : List (List ℕ) → List (List ℕ)
right_half leaves = drop (power_below (length leaves)) leaves

-- a single leaf is its own tree; else the node of the roots of both halves
unfoldable pub root_within : ℕ → HashAlg → List (List ℕ) → List ℕ
root_within zero alg [] = []
root_within zero alg (leaf ∷ leaves) = leaf
root_within (suc fuel) alg [] = []
root_within (suc fuel) alg (leaf ∷ []) = leaf
root_within (suc fuel) alg leaves = node_of alg (root_within fuel alg (left_half leaves) ∷ root_within fuel alg (right_half leaves) ∷ [])

-- the root over leaves: a single leaf, or the node of the roots of both halves
abbrev pub tree_root : HashAlg → List (List ℕ) → List ℕ
tree_root alg leaves = root_within (length leaves) alg leaves

-- from the leaf up, the root of the other half at each split
unfoldable pub path_within : ℕ → HashAlg → List (List ℕ) → ℕ → List (List ℕ)
path_within zero alg leaves place = []
path_within (suc fuel) alg [] place = []
path_within (suc fuel) alg (leaf ∷ []) place = []
path_within (suc fuel) alg leaves place =
    if nat_lt place (power_below (length leaves))
    then path_within fuel alg (left_half leaves) place ++ tree_root alg (right_half leaves) ∷ []
    else path_within fuel alg (right_half leaves) (place - power_below (length leaves)) ++ tree_root alg (left_half leaves) ∷ []

-- the path of the leaf in this place: from the leaf up, the root of the other half at each split
abbrev pub tree_path : HashAlg → List (List ℕ) → ℕ → List (List ℕ)
tree_path alg leaves place = path_within (length leaves) alg leaves place

-- what a value comes to with the values of a path, one after another
abbrev pub folded : HashAlg → List ℕ → List (List ℕ) → List ℕ
folded alg value [] = value
folded alg value (other ∷ path) = folded alg (node_of alg (value ∷ other ∷ [])) path

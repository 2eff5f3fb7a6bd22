-- A tree as its levels: the leaves, then the nodes of neighbours, and so on up to the root.
use Rattle.std.specs.Prelude.{◌≡◌, ℕ, zero, suc, ◌/◌, List, [], ◌∷◌, ◌++◌, length}
use Rattle.hash_kit.specs.declared.algorithm.HashAlg.{HashAlg}
use Rattle.hash_kit.specs.Node.{node_of}

-- the nodes of neighbours, where a last value without a neighbour is carried up
unfoldable pub pairs : HashAlg → List (List ℕ) → List (List ℕ)
pairs alg [] = []
pairs alg (value ∷ []) = value ∷ []
pairs alg (value ∷ other ∷ values) = node_of alg (value ∷ other ∷ []) ∷ pairs alg values

-- the neighbour of this place, where there is a value: places 0 and 1 are neighbours, 2 and 3, and so on
unfoldable pub beside : List (List ℕ) → ℕ → List (List ℕ)
beside [] place = []
beside (value ∷ []) zero = []
beside (value ∷ []) (suc zero) = value ∷ []
beside (value ∷ []) (suc (suc place)) = []
beside (value ∷ other ∷ values) zero = other ∷ []
beside (value ∷ other ∷ values) (suc zero) = value ∷ []
beside (value ∷ other ∷ values) (suc (suc place)) = beside values place

-- the levels from this one up to that of a single value
unfoldable pub AreLevels : HashAlg → List (List ℕ) → List (List (List ℕ)) → Type 0
AreLevels alg values [] = ⊥
AreLevels alg values (level ∷ []) = (level ≡ values) × (length level ≡ 1)
AreLevels alg values (level ∷ next ∷ levels) = (level ≡ values) × AreLevels alg (pairs alg values) (next ∷ levels)

-- the neighbours that are met on the way up
unfoldable pub neighbours : List (List (List ℕ)) → ℕ → List (List ℕ)
neighbours [] place = []
neighbours (level ∷ levels) place = beside level place ++ neighbours levels (place / 2)

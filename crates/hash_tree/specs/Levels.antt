-- What contracts see of a tree.
use Rattle.std.specs.Prelude.{ℕ, List, [], ◌∷◌}
use Rattle.hash_kit.specs.declared.algorithm.HashAlg.{HashAlg}

-- what contracts see of a tree: its hash, and its leaves
pub record Covered : Type 0 where
  pub alg : HashAlg
  pub leaves : List (List ℕ)

-- the lowest level
abbrev pub lowest : List (List (List ℕ)) → List (List ℕ)
lowest [] = []
lowest (level ∷ levels) = level

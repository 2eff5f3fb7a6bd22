-- The lists of a reduced hash tree that the archive writes (RFC 4998, 4.2): they lead from the values of a group, by the
-- path of its leaf, to the root.
use Rattle.std.specs.Prelude.{◌≡◌, ℕ, List, [], ◌∷◌, map, Option, Some, None, Contains}
use Rattle.std.specs.List.{AllByRecursion}
use Rattle.hash_kit.specs.declared.algorithm.HashAlg.{HashAlg}
use Rattle.hash_kit.specs.Node.{ascending}
use Rattle.reduced_tree.specs.Reduced.{first_of, plain_root}

-- the list of this value alone
abbrev pub only : List ℕ → List (List ℕ)
only value = value ∷ []

-- A single value that is the root needs no lists. A single value stands with the first of its path, more values stand
-- by themselves; then comes a list for each further value of the path. Each list ascends.
abbrev pub lists_of : List (List ℕ) → List (List ℕ) → Option (List (List (List ℕ)))
lists_of [] path = None
lists_of (value ∷ []) [] = None
lists_of (value ∷ []) (other ∷ path) = Some (ascending (value ∷ other ∷ []) ∷ map only path)
lists_of (value ∷ next ∷ values) path = Some (ascending (value ∷ next ∷ values) ∷ map only path)

-- Without lists the root is the one value. Else each value stands in the first list, and the lists lead to the root.
abbrev pub LeadTo : HashAlg → List ℕ → List (List ℕ) → Option (List (List (List ℕ))) → Type 0
LeadTo alg root values None = values ≡ root ∷ []
LeadTo alg root values (Some lists) = AllByRecursion (Contains (first_of lists)) values × (plain_root alg lists ≡ root)

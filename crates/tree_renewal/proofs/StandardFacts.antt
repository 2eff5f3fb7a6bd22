-- Worked values of the definitions, so that a wrong rule in the specs does not check.
use Rattle.std.proofs.Common.{◌≡◌, ℕ, List, [], ◌∷◌, Some, None, refl}
use Rattle.hash_kit.specs.declared.algorithm.HashAlg.{HashAlg}
use Rattle.hash_kit.specs.Digest.{digest_of}
use Rattle.hash_kit.specs.Node.{node_of}
use Rattle.tree_renewal.specs.Leaf.{leaf_of}
use Rattle.tree_renewal.specs.Lists.{lists_of}

-- the leaf of one document is its digest, that of two the node of both
leaf_of_one : (alg : HashAlg) (d : List ℕ) → leaf_of alg [] (d ∷ []) ≡ digest_of alg d
leaf_of_one alg d = refl

leaf_of_two : (alg : HashAlg) (d e : List ℕ) → leaf_of alg [] (d ∷ e ∷ []) ≡ node_of alg (digest_of alg d ∷ digest_of alg e ∷ [])
leaf_of_two alg d e = refl

-- a document that is the only leaf
alone : lists_of ((7 ∷ []) ∷ []) [] ≡ None
alone = refl

-- a document beside another leaf, and one leaf further up
one_of_three : lists_of ((7 ∷ []) ∷ []) ((3 ∷ []) ∷ (9 ∷ []) ∷ []) ≡ Some (((3 ∷ []) ∷ (7 ∷ []) ∷ []) ∷ ((9 ∷ []) ∷ []) ∷ [])
one_of_three = refl

-- two documents of a group that is the only leaf, and of one with another beside it
two_alone : lists_of ((7 ∷ []) ∷ (3 ∷ []) ∷ []) [] ≡ Some (((3 ∷ []) ∷ (7 ∷ []) ∷ []) ∷ [])
two_alone = refl

two_of_a_pair : lists_of ((7 ∷ []) ∷ (3 ∷ []) ∷ []) ((1 ∷ []) ∷ []) ≡ Some (((3 ∷ []) ∷ (7 ∷ []) ∷ []) ∷ ((1 ∷ []) ∷ []) ∷ [])
two_of_a_pair = refl

-- Worked values of the definitions, so that a wrong rule in the specs does not check.
use Rattle.std.proofs.Common.{◌≡◌, ℕ, List, [], ◌∷◌, Some, None, refl}
use Rattle.hash_kit.specs.declared.algorithm.HashAlg.{HashAlg}
use Rattle.hash_kit.specs.Digest.{digest_of}
use Rattle.hash_kit.specs.Node.{node_of}
use Rattle.reduced_tree.specs.Reduced.{plain_root, other_root}

-- a list of one value leads to the value, and to its digest
one_plain : (alg : HashAlg) (v : List ℕ) → plain_root alg ((v ∷ []) ∷ []) ≡ v
one_plain alg v = refl

one_other : (alg : HashAlg) (v : List ℕ) → other_root alg ((v ∷ []) ∷ []) ≡ Some (digest_of alg v)
one_other alg v = refl

-- a list of two leads to one root
two_plain : (alg : HashAlg) (v w : List ℕ) → plain_root alg ((v ∷ w ∷ []) ∷ []) ≡ node_of alg (v ∷ w ∷ [])
two_plain alg v w = refl

two_other : (alg : HashAlg) (v w : List ℕ) → other_root alg ((v ∷ w ∷ []) ∷ []) ≡ None
two_other alg v w = refl

-- a later list of one value is joined with what came before
then_one : (alg : HashAlg) (v w : List ℕ) → plain_root alg ((v ∷ []) ∷ (w ∷ []) ∷ []) ≡ node_of alg (v ∷ w ∷ [])
then_one alg v w = refl

then_one_other : (alg : HashAlg) (v w : List ℕ) → other_root alg ((v ∷ []) ∷ (w ∷ []) ∷ []) ≡ Some (node_of alg (digest_of alg v ∷ w ∷ []))
then_one_other alg v w = refl

three_lists : (alg : HashAlg) (a b c d e : List ℕ)
    → plain_root alg ((a ∷ b ∷ []) ∷ (c ∷ []) ∷ (d ∷ e ∷ []) ∷ []) ≡ node_of alg (node_of alg (node_of alg (a ∷ b ∷ []) ∷ c ∷ []) ∷ d ∷ e ∷ [])
three_lists alg a b c d e = refl

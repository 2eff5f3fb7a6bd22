-- Worked values of the definitions, so that a wrong rule in the specs does not check.
use Rattle.std.proofs.Common.{◌≡◌, ℕ, List, [], ◌∷◌, refl}
use Rattle.std.specs.Prelude.{map}
use Rattle.hash_kit.specs.declared.algorithm.HashAlg.{HashAlg}
use Rattle.hash_kit.specs.Node.{node_of}
use Rattle.hash_tree.specs.Tree.{power_within, power_below, root_within, tree_root, path_within, tree_path}

powers : map power_below (2 ∷ 3 ∷ 4 ∷ 5 ∷ 8 ∷ 9 ∷ 16 ∷ 17 ∷ 65536 ∷ 65537 ∷ []) ≡ 1 ∷ 2 ∷ 2 ∷ 4 ∷ 4 ∷ 8 ∷ 8 ∷ 16 ∷ 32768 ∷ 65536 ∷ []
unfolding power_within
powers = refl

one : (alg : HashAlg) (a : List ℕ) → tree_root alg (a ∷ []) ≡ a
unfolding root_within
one alg a = refl

three : (alg : HashAlg) (a b c : List ℕ) → tree_root alg (a ∷ b ∷ c ∷ []) ≡ node_of alg (node_of alg (a ∷ b ∷ []) ∷ c ∷ [])
unfolding power_within root_within
three alg a b c = refl

five : (alg : HashAlg) (a b c d e : List ℕ)
    → tree_root alg (a ∷ b ∷ c ∷ d ∷ e ∷ []) ≡ node_of alg (node_of alg (node_of alg (a ∷ b ∷ []) ∷ node_of alg (c ∷ d ∷ []) ∷ []) ∷ e ∷ [])
unfolding power_within root_within
five alg a b c d e = refl

first_of_five : (alg : HashAlg) (a b c d e : List ℕ) → tree_path alg (a ∷ b ∷ c ∷ d ∷ e ∷ []) 0 ≡ b ∷ node_of alg (c ∷ d ∷ []) ∷ e ∷ []
unfolding power_within root_within path_within
first_of_five alg a b c d e = refl

last_of_five : (alg : HashAlg) (a b c d e : List ℕ)
    → tree_path alg (a ∷ b ∷ c ∷ d ∷ e ∷ []) 4 ≡ node_of alg (node_of alg (a ∷ b ∷ []) ∷ node_of alg (c ∷ d ∷ []) ∷ []) ∷ []
unfolding power_within root_within path_within
last_of_five alg a b c d e = refl

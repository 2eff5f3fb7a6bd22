-- A leaf with its path comes to the root.
use Rattle.std.proofs.Common.{◌≡◌, ℕ, zero, suc, ◌+◌, ◌-◌, ◌<◌, ◌≤◌, List, [], ◌∷◌, ◌++◌, length, get_or, get_or-take, get_or-drop, refl, sym, ap, ◌∙◌, arith}
use Rattle.std.specs.Prelude.{nat_lt}
use Rattle.std.specs.List.{concat}
use Rattle.std.proofs.lemmas.Bool.{ltb-true, ltb-false}
use Rattle.hash_kit.specs.declared.algorithm.HashAlg.{HashAlg}
use Rattle.hash_kit.specs.Digest.{digest_of}
use Rattle.hash_kit.specs.Node.{node_of}
use Rattle.hash_kit.proofs.Order.{commute}
use Rattle.hash_tree.specs.Tree.{power_below, left_half, right_half, root_within, tree_root, path_within, tree_path, folded}
use Rattle.hash_tree.proofs.PowerLemmas.{by_test}
use Rattle.hash_tree.proofs.RootLemmas.{lengths, root_single, root_step, root_fuel}
use Rattle.hash_tree.proofs.PathLemmas.{path_single, path_left, path_right}

-- a node has no order
turned : (alg : HashAlg) (a b : List ℕ) → node_of alg (a ∷ b ∷ []) ≡ node_of alg (b ∷ a ∷ [])
turned alg a b = ap (λ (l : List (List ℕ)). digest_of alg (concat l)) (commute a b [])

folded_last : (alg : HashAlg) (path : List (List ℕ)) (x r : List ℕ) → folded alg x (path ++ r ∷ []) ≡ node_of alg (folded alg x path ∷ r ∷ [])
folded_last alg [] x r = refl
folded_last alg (other ∷ path) x r = folded_last alg path (node_of alg (x ∷ other ∷ [])) r

abbrev Folds : ℕ → HashAlg → Type 0
Folds f alg = (l : List (List ℕ)) (i : ℕ) → i < length l → length l ≤ f → folded alg (get_or l i []) (path_within f alg l i) ≡ root_within f alg l

from_left : (f : ℕ) (alg : HashAlg) (l : List (List ℕ)) (i : ℕ) → 2 ≤ length l → i < power_below (length l) → length l ≤ suc f → Folds f alg
    → folded alg (get_or l i []) (path_within (suc f) alg l i) ≡ root_within (suc f) alg l
from_left f alg l i two t hf folds =
    let n = lengths l two in
    let other = tree_root alg (right_half l) in
    let value : get_or l i [] ≡ get_or (left_half l) i [] = sym (get_or-take (power_below (length l)) l i [] t) in
    ap (folded alg (get_or l i [])) (path_left f alg l i two t)
    ∙ folded_last alg (path_within f alg (left_half l) i) (get_or l i []) other
    ∙ ap (λ (x : List ℕ). node_of alg (folded alg x (path_within f alg (left_half l) i) ∷ other ∷ [])) value
    ∙ ap (λ (x : List ℕ). node_of alg (x ∷ other ∷ [])) (folds (left_half l) i (omega (arith, t, n.left)) (omega (arith, n.left, n.under, hf)))
    ∙ ap (λ (x : List ℕ). node_of alg (root_within f alg (left_half l) ∷ x ∷ []))
    (root_fuel (length (right_half l)) f alg (right_half l) (omega arith) (omega (arith, n.right, n.some, n.under, hf)))
    ∙ sym (root_step f alg l two)

from_right : (f : ℕ) (alg : HashAlg) (l : List (List ℕ)) (i : ℕ) → 2 ≤ length l → power_below (length l) ≤ i → i < length l → length l ≤ suc f → Folds f alg
    → folded alg (get_or l i []) (path_within (suc f) alg l i) ≡ root_within (suc f) alg l
from_right f alg l i two t u hf folds =
    let n = lengths l two in
    let other = tree_root alg (left_half l) in
    let j : ℕ = i - power_below (length l) in
    let back : power_below (length l) + j ≡ i = omega (arith, t) in
    let value : get_or l i [] ≡ get_or (right_half l) j [] =
    ap (λ (k : ℕ). get_or l k []) (sym back) ∙ sym (get_or-drop (power_below (length l)) l j []) in
    ap (folded alg (get_or l i [])) (path_right f alg l i j two t refl)
    ∙ folded_last alg (path_within f alg (right_half l) j) (get_or l i []) other
    ∙ ap (λ (x : List ℕ). node_of alg (folded alg x (path_within f alg (right_half l) j) ∷ other ∷ [])) value
    ∙ ap (λ (x : List ℕ). node_of alg (x ∷ other ∷ [])) (folds (right_half l) j (omega (arith, t, u, n.right)) (omega (arith, n.right, n.some, n.under, hf)))
    ∙ turned alg (root_within f alg (right_half l)) other
    ∙ ap (λ (x : List ℕ). node_of alg (x ∷ root_within f alg (right_half l) ∷ []))
    (root_fuel (length (left_half l)) f alg (left_half l) (omega arith) (omega (arith, n.left, n.under, hf)))
    ∙ sym (root_step f alg l two)

path_folds : (f : ℕ) (alg : HashAlg) → Folds f alg
path_folds f alg [] i h hf = absurd (omega (arith, h))
path_folds f alg (v ∷ []) zero h hf = ap (folded alg v) (path_single f alg v 0) ∙ sym (root_single f alg v)
path_folds f alg (v ∷ []) (suc i) h hf = absurd (omega (arith, h))
path_folds zero alg (v ∷ w ∷ l) i h hf = absurd (omega (arith, hf))
path_folds (suc f) alg (v ∷ w ∷ l) i h hf =
    by_test (nat_lt i (power_below (length (v ∷ w ∷ l))))
    (λ t. from_left f alg (v ∷ w ∷ l) i (omega arith) (ltb-true i (power_below (length (v ∷ w ∷ l))) t) hf (path_folds f alg))
    (λ t. from_right f alg (v ∷ w ∷ l) i (omega arith) (ltb-false i (power_below (length (v ∷ w ∷ l))) t) h hf (path_folds f alg))

pub each_folds : (alg : HashAlg) (leaves : List (List ℕ)) (place : ℕ) → place < length leaves → folded alg (get_or leaves place []) (tree_path alg leaves place) ≡ tree_root alg leaves
each_folds alg leaves place h = path_folds (length leaves) alg leaves place h (omega arith)

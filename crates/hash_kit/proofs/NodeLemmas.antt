-- Hash values joined one after another, and the node over more than one.
use Rattle.std.proofs.Common.{◌≡◌, ◌≢◌, ℕ, zero, suc, ◌+◌, ◌<◌, List, [], ◌∷◌, ◌++◌, length, take, get_or, refl, sym, ap, subst, ◌∙◌, arith, append_assoc, append-nil}
use Rattle.std.specs.List.{concat}
use Rattle.std.specs.Prelude.{IsPermutation, IsSorted}
use Rattle.hash_kit.specs.declared.algorithm.HashAlg.{HashAlg}
use Rattle.hash_kit.specs.Digest.{digest_of}
use Rattle.hash_kit.specs.Node.{bytes_cmp, ascending, node_of}
use Rattle.hash_kit.proofs.Order.{ascending_only}

next : (xs : List (List ℕ)) (i : ℕ) (x : List ℕ) → i < length xs → x ≡ get_or xs i x → concat (take (suc i) xs) ≡ concat (take i xs) ++ x
next [] i x h e = absurd (omega arith)
next (y ∷ ys) zero x h e = append-nil y ∙ sym e
next (y ∷ ys) (suc i) x h e = ap (λ l. y ++ l) (next ys i x (omega arith) e) ∙ sym (append_assoc y (concat (take i ys)) x)

pub one_more : (xs : List (List ℕ)) (i : ℕ) (x : List ℕ) → i < length xs → x ≡ get_or xs i x → concat (take i xs) ++ x ≡ concat (take (i + 1) xs)
one_more xs i x h e =
    let s : suc i ≡ i + 1 = omega arith in
    sym (subst (λ k. concat (take k xs) ≡ concat (take i xs) ++ x) s (next xs i x h e))

pub node_of_more : (alg : HashAlg) (values : List (List ℕ)) → length values ≢ 1 → node_of alg values ≡ digest_of alg (concat (ascending values))
node_of_more alg [] h = refl
node_of_more alg (x ∷ []) h = absurd (h refl)
node_of_more alg (x ∷ y ∷ l) h = refl

-- what a sort of the values gives is what the node joins
pub sorted_node : (alg : HashAlg) (values l : List (List ℕ)) → length values ≢ 1 → IsPermutation values l → IsSorted bytes_cmp l → digest_of alg (concat l) ≡ node_of alg values
sorted_node alg values l more moved up =
    ap (λ v. digest_of alg (concat v)) (ascending_only values l moved up) ∙ sym (node_of_more alg values more)

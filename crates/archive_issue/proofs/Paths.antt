-- Each value of a path is a hash, where the leaves are.
use Rattle.std.proofs.Common.{ℕ, zero, suc, ◌-◌, ◌<◌, ◌≤◌, List, [], ◌∷◌, length, take, drop, refl, sym, subst, arith}
use Rattle.std.specs.Prelude.{nat_lt}
use Rattle.std.specs.List.{AllByRecursion, concat}
use Rattle.std.proofs.lemmas.Bool.{ltb-true, ltb-false}
use Rattle.hash_kit.specs.declared.algorithm.HashAlg.{HashAlg}
use Rattle.hash_kit.specs.Node.{ascending, node_of}
use Rattle.hash_tree.specs.Tree.{power_below, left_half, right_half, root_within, tree_root, path_within, tree_path}
use Rattle.hash_tree.proofs.PowerLemmas.{by_test}
use Rattle.hash_tree.proofs.RootLemmas.{AreLengths, lengths, root_single, root_step}
use Rattle.hash_tree.proofs.PathLemmas.{path_single, path_left, path_right}
use Rattle.evidence_syntax.specs.Valid.{IsHash}
use Rattle.archive_chain.proofs.Sizes.{digest_hash}
use Rattle.archive_issue.proofs.Ends.{each_end}

pub node_hash : (alg : HashAlg) (values : List (List ℕ)) → 0 < length values → AllByRecursion IsHash values → IsHash (node_of alg values)
node_hash alg [] some all = absurd (omega (arith, some))
node_hash alg (v ∷ []) some all = all.0
node_hash alg (v ∷ w ∷ values) some all = digest_hash alg (concat (ascending (v ∷ w ∷ values)))

pub each_take : {A : Type 0} (P : A → Type 0) (n : ℕ) (xs : List A) → AllByRecursion P xs → AllByRecursion P (take n xs)
each_take P zero xs h = tt
each_take P (suc n) [] h = tt
each_take P (suc n) (x ∷ xs) h = (h.0, each_take P n xs h.1)

pub each_drop : {A : Type 0} (P : A → Type 0) (n : ℕ) (xs : List A) → AllByRecursion P xs → AllByRecursion P (drop n xs)
each_drop P zero xs h = h
each_drop P (suc n) [] h = tt
each_drop P (suc n) (x ∷ xs) h = each_drop P n xs h.1

-- ---- each value is a hash

root_hash : (f : ℕ) (alg : HashAlg) (l : List (List ℕ)) → length l ≤ f → 0 < length l → AllByRecursion IsHash l → IsHash (root_within f alg l)
root_hash f alg [] le some all = absurd (omega (arith, some))
root_hash f alg (v ∷ []) le some all = subst IsHash (sym (root_single f alg v)) all.0
root_hash zero alg (v ∷ w ∷ l) le some all = absurd (omega (arith, le))
root_hash (suc f) alg (v ∷ w ∷ l) le some all =
    let all_leaves : List (List ℕ) = v ∷ w ∷ l in
    subst IsHash (sym (root_step f alg all_leaves (omega arith)))
    (digest_hash alg (concat (ascending (root_within f alg (left_half all_leaves) ∷ root_within f alg (right_half all_leaves) ∷ []))))

Hashes : ℕ → HashAlg → List (List ℕ) → Type 0
Hashes f alg l = (i : ℕ) → length l ≤ f → AllByRecursion IsHash l → AllByRecursion IsHash (path_within f alg l i)

hashes_step : (f : ℕ) (alg : HashAlg) (l : List (List ℕ)) → 2 ≤ length l → ((m : List (List ℕ)) → Hashes f alg m) → Hashes (suc f) alg l
unfolding Hashes
hashes_step f alg l two rest = λ i le all.
    let n : AreLengths l = lengths l two in
    let p : ℕ = power_below (length l) in
    let lefts = each_take IsHash p l all in
    let rights = each_drop IsHash p l all in
    by_test (nat_lt i p)
    (λ t.
    let low : i < p = ltb-true i p t in
    subst (AllByRecursion IsHash) (sym (path_left f alg l i two low))
    (each_end IsHash (path_within f alg (left_half l) i) (tree_root alg (right_half l)) (rest (left_half l) i (omega (arith, le, n.left, n.under)) lefts)
    (root_hash (length (right_half l)) alg (right_half l) (omega arith) (omega (arith, n.right, n.under)) rights)))
    (λ t.
    let high : p ≤ i = ltb-false i p t in
    subst (AllByRecursion IsHash) (sym (path_right f alg l i (i - p) two high refl))
    (each_end IsHash (path_within f alg (right_half l) (i - p)) (tree_root alg (left_half l)) (rest (right_half l) (i - p) (omega (arith, le, n.right, n.some)) rights)
    (root_hash (length (left_half l)) alg (left_half l) (omega arith) (omega (arith, n.left, n.some)) lefts)))

hashes : (f : ℕ) (alg : HashAlg) (l : List (List ℕ)) → Hashes f alg l
unfolding Hashes path_within
hashes f alg [] = λ i le all. none f i where
  none : (g i : ℕ) → AllByRecursion IsHash (path_within g alg [] i)
  none zero i = tt
  none (suc g) i = tt
hashes f alg (v ∷ []) = λ i le all. subst (AllByRecursion IsHash) (sym (path_single f alg v i)) tt
hashes zero alg (v ∷ w ∷ l) = λ i le all. tt
hashes (suc f) alg (v ∷ w ∷ l) = hashes_step f alg (v ∷ w ∷ l) (omega arith) (hashes f alg)

pub path_hashes : (alg : HashAlg) (leaves : List (List ℕ)) (place : ℕ) → AllByRecursion IsHash leaves → AllByRecursion IsHash (tree_path alg leaves place)
unfolding Hashes
path_hashes alg leaves place all = hashes (length leaves) alg leaves place (omega arith) all

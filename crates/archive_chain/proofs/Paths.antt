-- How many values a path has.
use Rattle.std.proofs.Common.{ℕ, zero, suc, ◌-◌, ◌*◌, ◌<◌, ◌≤◌, List, [], ◌∷◌, length, refl, sym, subst, arith}
use Rattle.std.specs.Prelude.{nat_lt, ◌^◌}
use Rattle.std.proofs.lemmas.List.{length-append}
use Rattle.std.proofs.lemmas.Bool.{ltb-true, ltb-false}
use Rattle.std.proofs.Math.Pow.{pow_mono}
use Rattle.hash_kit.specs.declared.algorithm.HashAlg.{HashAlg}
use Rattle.hash_tree.specs.Tree.{power_below, left_half, right_half, tree_root, path_within, tree_path}
use Rattle.hash_tree.proofs.PowerLemmas.{by_test, is_power, power_high}
use Rattle.hash_tree.proofs.RootLemmas.{AreLengths, lengths}
use Rattle.hash_tree.proofs.PathLemmas.{path_single, path_left, path_right}

-- ---- at most k for 2^k leaves

power_few : (n k : ℕ) → 2 ≤ n → power_below n < n → n ≤ 2 ^ suc k → power_below n ≤ 2 ^ k
power_few n k two under few =
    let j = is_power n n in
    by_test (nat_lt k j.0)
    (λ t.
    let low : suc k ≤ j.0 = ltb-true k j.0 t in
    let big : 2 ^ suc k ≤ 2 ^ j.0 = pow_mono low in
    absurd (omega (arith, big, j.1, under, few)))
    (λ t.
    let high : j.0 ≤ k = ltb-false k j.0 t in
    let small : 2 ^ j.0 ≤ 2 ^ k = pow_mono high in
    omega (arith, small, j.1))

Few : ℕ → HashAlg → List (List ℕ) → Type 0
Few f alg l = (i k : ℕ) → length l ≤ f → length l ≤ 2 ^ k → length (path_within f alg l i) ≤ k

few_step : (f : ℕ) (alg : HashAlg) (l : List (List ℕ)) → 2 ≤ length l → ((m : List (List ℕ)) → Few f alg m) → Few (suc f) alg l
unfolding Few
few_step f alg l two rest = λ i k le few. by_k i k le few where
  by_k : (i k : ℕ) → length l ≤ suc f → length l ≤ 2 ^ k → length (path_within (suc f) alg l i) ≤ k
  by_k i zero le few = absurd (omega (arith, two, few))
  by_k i (suc k) le few =
      let n : AreLengths l = lengths l two in
      let p : ℕ = power_below (length l) in
      let half : p ≤ 2 ^ k = power_few (length l) k two n.under few in
      let high_power : length l ≤ 2 * p = power_high (length l) (length l) (omega arith) in
      by_test (nat_lt i p)
      (λ t.
      let low : i < p = ltb-true i p t in
      let more = rest (left_half l) i k (omega (arith, le, n.left, n.under)) (omega (arith, n.left, half)) in
      let long = length-append (path_within f alg (left_half l) i) (tree_root alg (right_half l) ∷ []) in
      subst (λ (x : List (List ℕ)). length x ≤ suc k) (sym (path_left f alg l i two low)) (omega (arith, long, more)))
      (λ t.
      let high : p ≤ i = ltb-false i p t in
      let more = rest (right_half l) (i - p) k (omega (arith, le, n.right, n.some)) (omega (arith, n.right, half, high_power)) in
      let long = length-append (path_within f alg (right_half l) (i - p)) (tree_root alg (left_half l) ∷ []) in
      subst (λ (x : List (List ℕ)). length x ≤ suc k) (sym (path_right f alg l i (i - p) two high refl)) (omega (arith, long, more)))

few : (f : ℕ) (alg : HashAlg) (l : List (List ℕ)) → Few f alg l
unfolding Few path_within
few f alg [] = λ i k le small. none f i k where
  none : (g i k : ℕ) → length (path_within g alg [] i) ≤ k
  none zero i k = omega arith
  none (suc g) i k = omega arith
few f alg (v ∷ []) = λ i k le small. subst (λ (x : List (List ℕ)). length x ≤ k) (sym (path_single f alg v i)) (omega arith)
few zero alg (v ∷ w ∷ l) = λ i k le small. omega arith
few (suc f) alg (v ∷ w ∷ l) = few_step f alg (v ∷ w ∷ l) (omega arith) (few f alg)

pub path_few : (alg : HashAlg) (leaves : List (List ℕ)) (place k : ℕ) → length leaves ≤ 2 ^ k → length (tree_path alg leaves place) ≤ k
unfolding Few
path_few alg leaves place k small = few (length leaves) alg leaves place k (omega arith) small

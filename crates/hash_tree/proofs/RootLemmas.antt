-- A level has the root of the level above.
use Rattle.std.proofs.Common.{◌≡◌, ℕ, zero, suc, ◌+◌, ◌-◌, ◌*◌, ◌/◌, ◌<◌, ◌≤◌, List, [], ◌∷◌, length, take, drop, refl, sym, ap, ◌∙◌, arith, length-take-le, length-drop}
use Rattle.hash_kit.specs.declared.algorithm.HashAlg.{HashAlg}
use Rattle.hash_kit.specs.Node.{node_of}
use Rattle.hash_tree.specs.Tree.{power_within, power_below, left_half, right_half, root_within, tree_root}
use Rattle.hash_tree.specs.Inside.{pairs}
use Rattle.hash_tree.proofs.PowerLemmas.{power_low, power_under, power_step}

pub length_pairs : (alg : HashAlg) (l : List (List ℕ)) → length (pairs alg l) ≡ (length l + 1) / 2
unfolding pairs
length_pairs alg [] = refl
length_pairs alg (v ∷ []) = refl
length_pairs alg (v ∷ w ∷ l) = omega (arith, length_pairs alg l)

pub twice : (s : ℕ) → 2 * suc s ≡ suc (suc (2 * s))
twice s = omega arith

take_none : (n : ℕ) (l : List (List ℕ)) → l ≡ [] → take n l ≡ []
take_none zero l e = refl
take_none (suc n) l e = ap (λ (m : List (List ℕ)). take (suc n) m) e

drop_none : (n : ℕ) (l : List (List ℕ)) → l ≡ [] → drop n l ≡ []
drop_none zero l e = e
drop_none (suc n) l e = ap (λ (m : List (List ℕ)). drop (suc n) m) e

take_pairs : (alg : HashAlg) (s : ℕ) (l : List (List ℕ)) → pairs alg (take (2 * s) l) ≡ take s (pairs alg l)
unfolding pairs
take_pairs alg zero l = refl
take_pairs alg (suc s) [] = ap (λ (n : ℕ). pairs alg (take n [])) (twice s)
take_pairs alg (suc s) (v ∷ []) = ap (λ (n : ℕ). pairs alg (take n (v ∷ []))) (twice s) ∙ ap (λ (m : List (List ℕ)). v ∷ m) (sym (take_none s [] refl))
take_pairs alg (suc s) (v ∷ w ∷ l) =
    ap (λ (n : ℕ). pairs alg (take n (v ∷ w ∷ l))) (twice s) ∙ ap (λ (m : List (List ℕ)). node_of alg (v ∷ w ∷ []) ∷ m) (take_pairs alg s l)

drop_pairs : (alg : HashAlg) (s : ℕ) (l : List (List ℕ)) → pairs alg (drop (2 * s) l) ≡ drop s (pairs alg l)
unfolding pairs
drop_pairs alg zero l = refl
drop_pairs alg (suc s) [] = ap (λ (n : ℕ). pairs alg (drop n [])) (twice s)
drop_pairs alg (suc s) (v ∷ []) = ap (λ (n : ℕ). pairs alg (drop n (v ∷ []))) (twice s) ∙ sym (drop_none s [] refl)
drop_pairs alg (suc s) (v ∷ w ∷ l) = ap (λ (n : ℕ). pairs alg (drop n (v ∷ w ∷ l))) (twice s) ∙ drop_pairs alg s l

-- the halves of a level, and those of the level above
pub record AreHalves (alg : HashAlg) (l : List (List ℕ)) : Type 0 where
  pub twice : power_below (length l) ≡ 2 * power_below (length (pairs alg l))
  pub left : pairs alg (left_half l) ≡ left_half (pairs alg l)
  pub right : pairs alg (right_half l) ≡ right_half (pairs alg l)

pub halves : (alg : HashAlg) (l : List (List ℕ)) → 2 < length l → AreHalves alg l
halves alg l h =
    let e = power_step (length l) (length (pairs alg l)) (length_pairs alg l) h in
    let s = power_below (length (pairs alg l)) in record {
      twice = e;
      left = ap (λ (n : ℕ). pairs alg (take n l)) e ∙ take_pairs alg s l;
      right = ap (λ (n : ℕ). pairs alg (drop n l)) e ∙ drop_pairs alg s l;
    }

-- how long they are
pub record AreLengths (l : List (List ℕ)) : Type 0 where
  pub some : 1 ≤ power_below (length l)
  pub under : power_below (length l) < length l
  pub left : length (left_half l) ≡ power_below (length l)
  pub right : length (right_half l) ≡ length l - power_below (length l)

pub lengths : (l : List (List ℕ)) → 2 ≤ length l → AreLengths l
lengths l h =
    let under = power_under (length l) (length l) h in
    let le : power_below (length l) ≤ length l = omega (arith, under) in record {
      some = power_low (length l) (length l);
      under = under;
      left = length-take-le (power_below (length l)) l le;
      right = length-drop (power_below (length l)) l;
    }

pub root_none : (f : ℕ) (alg : HashAlg) → root_within f alg [] ≡ []
unfolding root_within
root_none zero alg = refl
root_none (suc f) alg = refl

pub root_single : (f : ℕ) (alg : HashAlg) (v : List ℕ) → root_within f alg (v ∷ []) ≡ v
unfolding root_within
root_single zero alg v = refl
root_single (suc f) alg v = refl

pub root_step : (f : ℕ) (alg : HashAlg) (l : List (List ℕ)) → 2 ≤ length l → root_within (suc f) alg l ≡ node_of alg (root_within f alg (left_half l) ∷ root_within f alg (right_half l) ∷ [])
unfolding root_within
root_step f alg [] h = absurd (omega (arith, h))
root_step f alg (v ∷ []) h = absurd (omega (arith, h))
root_step f alg (v ∷ w ∷ l) h = refl

both : (alg : HashAlg) {a b c d : List ℕ} → a ≡ c → b ≡ d → node_of alg (a ∷ b ∷ []) ≡ node_of alg (c ∷ d ∷ [])
both alg {a = a} {b = b} {c = c} {d = d} e f = ap (λ (x : List ℕ). node_of alg (x ∷ b ∷ [])) e ∙ ap (λ (x : List ℕ). node_of alg (c ∷ x ∷ [])) f

-- more fuel changes nothing
pub root_fuel : (f g : ℕ) (alg : HashAlg) (l : List (List ℕ)) → length l ≤ f → length l ≤ g → root_within f alg l ≡ root_within g alg l
root_fuel f g alg [] hf hg = root_none f alg ∙ sym (root_none g alg)
root_fuel f g alg (v ∷ []) hf hg = root_single f alg v ∙ sym (root_single g alg v)
root_fuel zero g alg (v ∷ w ∷ l) hf hg = absurd (omega (arith, hf))
root_fuel (suc f) zero alg (v ∷ w ∷ l) hf hg = absurd (omega (arith, hg))
root_fuel (suc f) (suc g) alg (v ∷ w ∷ l) hf hg =
    let two : 2 ≤ length (v ∷ w ∷ l) = omega arith in
    let n = lengths (v ∷ w ∷ l) two in
    root_step f alg (v ∷ w ∷ l) two
    ∙ both alg
    (root_fuel f g alg (left_half (v ∷ w ∷ l)) (omega (arith, n.left, n.under, hf)) (omega (arith, n.left, n.under, hg)))
    (root_fuel f g alg (right_half (v ∷ w ∷ l)) (omega (arith, n.right, n.some, n.under, hf)) (omega (arith, n.right, n.some, n.under, hg)))
    ∙ sym (root_step g alg (v ∷ w ∷ l) two)

abbrev SameAbove : ℕ → ℕ → HashAlg → Type 0
SameAbove f g alg = (l : List (List ℕ)) → length l ≤ f → length (pairs alg l) ≤ g → root_within f alg l ≡ root_within g alg (pairs alg l)

step : (f g : ℕ) (alg : HashAlg) (l : List (List ℕ)) → 2 < length l → length l ≤ suc f → length (pairs alg l) ≤ suc g → SameAbove f g alg → root_within (suc f) alg l ≡ root_within (suc g) alg (pairs alg l)
step f g alg l h hf hg same =
    let m = length_pairs alg l in
    let two : 2 ≤ length l = omega (arith, h) in
    let above : 2 ≤ length (pairs alg l) = omega (arith, h, m) in
    let n = lengths l two in
    let p = lengths (pairs alg l) above in
    let k = halves alg l h in
    root_step f alg l two
    ∙ both alg
    (same (left_half l) (omega (arith, n.left, n.under, hf)) (omega (arith, ap length k.left, p.left, p.under, hg)) ∙ ap (λ (x : List (List ℕ)). root_within g alg x) k.left)
    (same (right_half l) (omega (arith, n.right, n.some, n.under, hf)) (omega (arith, ap length k.right, p.right, p.some, p.under, hg)) ∙ ap (λ (x : List (List ℕ)). root_within g alg x) k.right)
    ∙ sym (root_step g alg (pairs alg l) above)

pub same_above : (f g : ℕ) (alg : HashAlg) → SameAbove f g alg
unfolding pairs power_within
same_above f g alg [] hf hg = root_none f alg ∙ sym (root_none g alg)
same_above f g alg (v ∷ []) hf hg = root_single f alg v ∙ sym (root_single g alg v)
same_above zero g alg (v ∷ w ∷ l) hf hg = absurd (omega (arith, hf))
same_above (suc f) g alg (v ∷ w ∷ []) hf hg =
    root_step f alg (v ∷ w ∷ []) (omega arith) ∙ both alg (root_single f alg v) (root_single f alg w) ∙ sym (root_single g alg (node_of alg (v ∷ w ∷ [])))
same_above (suc f) zero alg (v ∷ w ∷ x ∷ l) hf hg = absurd (omega (arith, hg))
same_above (suc f) (suc g) alg (v ∷ w ∷ x ∷ l) hf hg = step f g alg (v ∷ w ∷ x ∷ l) (omega arith) hf hg (same_above f g alg)

-- the tree over the nodes of neighbours has the same root
pub root_above : (alg : HashAlg) (l : List (List ℕ)) → tree_root alg l ≡ tree_root alg (pairs alg l)
root_above alg l = same_above (length l) (length (pairs alg l)) alg l (omega arith) (omega arith)

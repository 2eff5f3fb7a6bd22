-- A path begins with the neighbour of its place, and goes on as the path in the level above.
use Rattle.std.proofs.Common.{◌≡◌, ℕ, zero, suc, ◌+◌, ◌-◌, ◌*◌, ◌/◌, ◌%◌, ◌<◌, ◌≤◌, Bool, List, [], ◌∷◌, ◌++◌, length, take, drop, get_or, refl, sym, ap, ◌∙◌, arith, append_assoc, if◌then◌else◌}
use Rattle.std.specs.Prelude.{nat_lt}
use Rattle.std.proofs.lemmas.Bool.{ltb-true, ltb-false, lt-ltb, le-ltb}
use Rattle.hash_kit.specs.declared.algorithm.HashAlg.{HashAlg}
use Rattle.hash_kit.specs.Node.{node_of}
use Rattle.hash_tree.specs.Tree.{power_within, power_below, left_half, right_half, root_within, tree_root, path_within, tree_path}
use Rattle.hash_tree.specs.Inside.{pairs, beside}
use Rattle.hash_tree.proofs.PowerLemmas.{by_test}
use Rattle.hash_tree.proofs.RootLemmas.{halves, lengths, length_pairs, root_above, twice}

-- ---- the neighbour of a place

-- within a list it is the same whatever stands for a missing value
at_any : (l : List (List ℕ)) (n : ℕ) (x y : List ℕ) → n < length l → get_or l n x ≡ get_or l n y
at_any [] n x y h = absurd (omega (arith, h))
at_any (v ∷ l) zero x y h = refl
at_any (v ∷ l) (suc n) x y h = at_any l n x y (omega (arith, h))

at_neighbour : (l : List (List ℕ)) (i j : ℕ) → j ≡ i + 1 - 2 * (i % 2) → j < length l → beside l i ≡ get_or l j [] ∷ []
unfolding beside
at_neighbour [] i j e h = absurd (omega (arith, h))
at_neighbour (v ∷ []) zero j e h = absurd (omega (arith, e, h))
at_neighbour (v ∷ []) (suc zero) j e h = let z : j ≡ 0 = omega (arith, e) in ap (λ (n : ℕ). get_or (v ∷ []) n [] ∷ []) (sym z)
at_neighbour (v ∷ []) (suc (suc i)) j e h = absurd (omega (arith, e, h))
at_neighbour (v ∷ w ∷ l) zero j e h = let z : j ≡ 1 = omega (arith, e) in ap (λ (n : ℕ). get_or (v ∷ w ∷ l) n [] ∷ []) (sym z)
at_neighbour (v ∷ w ∷ l) (suc zero) j e h = let z : j ≡ 0 = omega (arith, e) in ap (λ (n : ℕ). get_or (v ∷ w ∷ l) n [] ∷ []) (sym z)
at_neighbour (v ∷ w ∷ l) (suc (suc i)) j e h =
    let k : ℕ = i + 1 - 2 * (i % 2) in
    let z : j ≡ suc (suc k) = omega (arith, e) in
    let m : k < length l = omega (arith, z, h) in
    at_neighbour l i k refl m ∙ ap (λ (n : ℕ). get_or (v ∷ w ∷ l) n [] ∷ []) (sym z)

pub one_at : (l : List (List ℕ)) (i n : ℕ) → n ≡ 1 → i < length l → (x : List ℕ) × (x ≡ get_or l i x) × (take n (drop i l) ≡ x ∷ [])
one_at [] i n one h = absurd (omega (arith, h))
one_at (v ∷ l) zero n one h = (v, refl, ap (λ (k : ℕ). take k (v ∷ l)) one)
one_at (v ∷ l) (suc i) n one h = one_at l i n one (omega (arith, h))

pub beside_there : (l : List (List ℕ)) (i j : ℕ) (x : List ℕ) → j ≡ i + 1 - 2 * (i % 2) → j < length l → x ≡ get_or l j x → beside l i ≡ x ∷ []
beside_there l i j x e h is = at_neighbour l i j e h ∙ ap (λ (y : List ℕ). y ∷ []) (at_any l j [] x h ∙ sym is)

pub beside_none : (l : List (List ℕ)) (i j : ℕ) → j ≡ i + 1 - 2 * (i % 2) → length l ≤ j → beside l i ≡ []
unfolding beside
beside_none [] i j e h = refl
beside_none (v ∷ []) zero j e h = refl
beside_none (v ∷ []) (suc zero) j e h = absurd (omega (arith, e, h))
beside_none (v ∷ []) (suc (suc i)) j e h = refl
beside_none (v ∷ w ∷ l) zero j e h = absurd (omega (arith, e, h))
beside_none (v ∷ w ∷ l) (suc zero) j e h = absurd (omega (arith, e, h))
beside_none (v ∷ w ∷ l) (suc (suc i)) j e h = beside_none l i (i + 1 - 2 * (i % 2)) refl (omega (arith, e, h))

beside_left : (s : ℕ) (l : List (List ℕ)) (i : ℕ) → i < 2 * s → 2 * s ≤ length l → beside (take (2 * s) l) i ≡ beside l i
unfolding beside
beside_left zero l i h m = absurd (omega (arith, h))
beside_left (suc s) [] i h m = absurd (omega (arith, m))
beside_left (suc s) (v ∷ []) i h m = absurd (omega (arith, m))
beside_left (suc s) (v ∷ w ∷ l) zero h m = ap (λ (n : ℕ). beside (take n (v ∷ w ∷ l)) 0) (twice s)
beside_left (suc s) (v ∷ w ∷ l) (suc zero) h m = ap (λ (n : ℕ). beside (take n (v ∷ w ∷ l)) 1) (twice s)
beside_left (suc s) (v ∷ w ∷ l) (suc (suc i)) h m =
    ap (λ (n : ℕ). beside (take n (v ∷ w ∷ l)) (suc (suc i))) (twice s) ∙ beside_left s l i (omega (arith, h)) (omega (arith, m))

beside_right : (s : ℕ) (l : List (List ℕ)) (i j : ℕ) → i ≡ 2 * s + j → 2 * s ≤ length l → beside (drop (2 * s) l) j ≡ beside l i
unfolding beside
beside_right zero l i j e m = ap (beside l) (omega (arith, e))
beside_right (suc s) [] i j e m = absurd (omega (arith, m))
beside_right (suc s) (v ∷ []) i j e m = absurd (omega (arith, m))
beside_right (suc s) (v ∷ w ∷ l) i j e m =
    let z : suc (suc (2 * s + j)) ≡ i = omega (arith, e) in
    ap (λ (n : ℕ). beside (drop n (v ∷ w ∷ l)) j) (twice s) ∙ beside_right s l (2 * s + j) j refl (omega (arith, m)) ∙ ap (beside (v ∷ w ∷ l)) z

-- ---- a path, one level up

pub path_single : (f : ℕ) (alg : HashAlg) (v : List ℕ) (i : ℕ) → path_within f alg (v ∷ []) i ≡ []
unfolding path_within
path_single zero alg v i = refl
path_single (suc f) alg v i = refl

pub path_left : (f : ℕ) (alg : HashAlg) (l : List (List ℕ)) (i : ℕ) → 2 ≤ length l → i < power_below (length l) → path_within (suc f) alg l i ≡ path_within f alg (left_half l) i ++ tree_root alg (right_half l) ∷ []
unfolding path_within
path_left f alg [] i h t = absurd (omega (arith, h))
path_left f alg (v ∷ []) i h t = absurd (omega (arith, h))
path_left f alg (v ∷ w ∷ l) i h t = ap (λ (b : Bool). if b then path_within f alg (left_half (v ∷ w ∷ l)) i ++ tree_root alg (right_half (v ∷ w ∷ l)) ∷ [] else path_within f alg (right_half (v ∷ w ∷ l)) (i - power_below (length (v ∷ w ∷ l))) ++ tree_root alg (left_half (v ∷ w ∷ l)) ∷ []) (lt-ltb i (power_below (length (v ∷ w ∷ l))) t)

pub path_right : (f : ℕ) (alg : HashAlg) (l : List (List ℕ)) (i j : ℕ) → 2 ≤ length l → power_below (length l) ≤ i → j ≡ i - power_below (length l) → path_within (suc f) alg l i ≡ path_within f alg (right_half l) j ++ tree_root alg (left_half l) ∷ []
unfolding path_within
path_right f alg [] i j h t e = absurd (omega (arith, h))
path_right f alg (v ∷ []) i j h t e = absurd (omega (arith, h))
path_right f alg (v ∷ w ∷ l) i j h t e =
    ap (λ (b : Bool). if b then path_within f alg (left_half (v ∷ w ∷ l)) i ++ tree_root alg (right_half (v ∷ w ∷ l)) ∷ [] else path_within f alg (right_half (v ∷ w ∷ l)) (i - power_below (length (v ∷ w ∷ l))) ++ tree_root alg (left_half (v ∷ w ∷ l)) ∷ []) (le-ltb i (power_below (length (v ∷ w ∷ l))) t)
    ∙ ap (λ (n : ℕ). path_within f alg (right_half (v ∷ w ∷ l)) n ++ tree_root alg (left_half (v ∷ w ∷ l)) ∷ []) (sym e)

abbrev Rises : ℕ → ℕ → HashAlg → Type 0
Rises f g alg =
    (l : List (List ℕ)) (i j : ℕ) → i < length l → j ≡ i / 2 → length l ≤ f → length (pairs alg l) ≤ g
    → path_within f alg l i ≡ beside l i ++ path_within g alg (pairs alg l) j

-- three parts, of which the last is the same
joined : (p a b c : List (List ℕ)) (x y : List ℕ) → p ≡ a ++ b → x ≡ y → b ++ y ∷ [] ≡ c → p ++ x ∷ [] ≡ a ++ c
joined p a b c x y e f g =
    ap (λ (q : List (List ℕ)). q ++ x ∷ []) e ∙ ap (λ (z : List ℕ). (a ++ b) ++ z ∷ []) f ∙ append_assoc a b (y ∷ []) ∙ ap (λ (q : List (List ℕ)). a ++ q) g

in_left : (f g : ℕ) (alg : HashAlg) (l : List (List ℕ)) (i j : ℕ) → 2 < length l → i < power_below (length l) → j ≡ i / 2 → length l ≤ suc f → length (pairs alg l) ≤ suc g → Rises f g alg
    → path_within (suc f) alg l i ≡ beside l i ++ path_within (suc g) alg (pairs alg l) j
in_left f g alg l i j h t e hf hg rises =
    let m = length_pairs alg l in
    let two : 2 ≤ length l = omega (arith, h) in
    let above : 2 ≤ length (pairs alg l) = omega (arith, h, m) in
    let n = lengths l two in
    let p = lengths (pairs alg l) above in
    let k = halves alg l h in
    let s = power_below (length (pairs alg l)) in
    let first =
    rises (left_half l) i j (omega (arith, t, n.left)) e (omega (arith, n.left, n.under, hf)) (omega (arith, ap length k.left, p.left, p.under, hg)) in
    let near : beside (left_half l) i ≡ beside l i =
    ap (λ (x : ℕ). beside (take x l) i) k.twice ∙ beside_left s l i (omega (arith, t, k.twice)) (omega (arith, n.under, k.twice)) in
    let far : path_within f alg (left_half l) i ≡ beside l i ++ path_within g alg (left_half (pairs alg l)) j =
    first ∙ ap (λ (x : List (List ℕ)). x ++ path_within g alg (pairs alg (left_half l)) j) near
    ∙ ap (λ (x : List (List ℕ)). beside l i ++ path_within g alg x j) k.left in
    path_left f alg l i two t
    ∙ joined _ _ _ _ _ _ far (root_above alg (right_half l) ∙ ap (tree_root alg) k.right)
    (sym (path_left g alg (pairs alg l) j above (omega (arith, e, t, k.twice))))

in_right : (f g : ℕ) (alg : HashAlg) (l : List (List ℕ)) (i j : ℕ) → 2 < length l → power_below (length l) ≤ i → i < length l → j ≡ i / 2 → length l ≤ suc f → length (pairs alg l) ≤ suc g → Rises f g alg
    → path_within (suc f) alg l i ≡ beside l i ++ path_within (suc g) alg (pairs alg l) j
in_right f g alg l i j h t u e hf hg rises =
    let m = length_pairs alg l in
    let two : 2 ≤ length l = omega (arith, h) in
    let above : 2 ≤ length (pairs alg l) = omega (arith, h, m) in
    let n = lengths l two in
    let p = lengths (pairs alg l) above in
    let k = halves alg l h in
    let s = power_below (length (pairs alg l)) in
    let a : ℕ = i - power_below (length l) in
    let b : ℕ = j - power_below (length (pairs alg l)) in
    let first =
    rises (right_half l) a b (omega (arith, t, u, n.right)) (omega (arith, t, e, k.twice)) (omega (arith, n.right, n.some, n.under, hf))
    (omega (arith, ap length k.right, p.right, p.some, p.under, hg)) in
    let near : beside (right_half l) a ≡ beside l i =
    ap (λ (x : ℕ). beside (drop x l) a) k.twice ∙ beside_right s l i a (omega (arith, t, k.twice)) (omega (arith, n.under, k.twice)) in
    let far : path_within f alg (right_half l) a ≡ beside l i ++ path_within g alg (right_half (pairs alg l)) b =
    first ∙ ap (λ (x : List (List ℕ)). x ++ path_within g alg (pairs alg (right_half l)) b) near
    ∙ ap (λ (x : List (List ℕ)). beside l i ++ path_within g alg x b) k.right in
    path_right f alg l i a two t refl
    ∙ joined _ _ _ _ _ _ far (root_above alg (left_half l) ∙ ap (tree_root alg) k.left)
    (sym (path_right g alg (pairs alg l) j b above (omega (arith, e, t, k.twice)) refl))

of_two : (f g : ℕ) (alg : HashAlg) (v w : List ℕ) (i j : ℕ) → i < 2 → path_within (suc f) alg (v ∷ w ∷ []) i ≡ beside (v ∷ w ∷ []) i ++ path_within g alg (pairs alg (v ∷ w ∷ [])) j
unfolding pairs beside path_within power_within root_within
of_two f g alg v w zero j h =
    ap (λ (x : List (List ℕ)). x ++ w ∷ []) (path_single f alg v 0) ∙ ap (λ (x : List (List ℕ)). (w ∷ []) ++ x) (sym (path_single g alg (node_of alg (v ∷ w ∷ [])) j))
of_two f g alg v w (suc zero) j h =
    ap (λ (x : List (List ℕ)). x ++ v ∷ []) (path_single f alg w 0) ∙ ap (λ (x : List (List ℕ)). (v ∷ []) ++ x) (sym (path_single g alg (node_of alg (v ∷ w ∷ [])) j))
of_two f g alg v w (suc (suc i)) j h = absurd (omega (arith, h))

pub path_above : (f g : ℕ) (alg : HashAlg) → Rises f g alg
unfolding pairs beside
path_above f g alg [] i j h e hf hg = absurd (omega (arith, h))
path_above f g alg (v ∷ []) zero j h e hf hg = path_single f alg v 0 ∙ sym (path_single g alg v j)
path_above f g alg (v ∷ []) (suc i) j h e hf hg = absurd (omega (arith, h))
path_above zero g alg (v ∷ w ∷ l) i j h e hf hg = absurd (omega (arith, hf))
path_above (suc f) g alg (v ∷ w ∷ []) i j h e hf hg = of_two f g alg v w i j (omega (arith, h))
path_above (suc f) zero alg (v ∷ w ∷ x ∷ l) i j h e hf hg = absurd (omega (arith, hg))
path_above (suc f) (suc g) alg (v ∷ w ∷ x ∷ l) i j h e hf hg =
    by_test (nat_lt i (power_below (length (v ∷ w ∷ x ∷ l))))
    (λ t. in_left f g alg (v ∷ w ∷ x ∷ l) i j (omega arith) (ltb-true i (power_below (length (v ∷ w ∷ x ∷ l))) t) e hf hg (path_above f g alg))
    (λ t. in_right f g alg (v ∷ w ∷ x ∷ l) i j (omega arith) (ltb-false i (power_below (length (v ∷ w ∷ x ∷ l))) t) h e hf hg (path_above f g alg))

pub path_step : (alg : HashAlg) (l : List (List ℕ)) (i : ℕ) → i < length l → tree_path alg l i ≡ beside l i ++ tree_path alg (pairs alg l) (i / 2)
path_step alg l i h = path_above (length l) (length (pairs alg l)) alg l i (i / 2) h refl (omega arith) (omega arith)

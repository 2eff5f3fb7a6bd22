-- The levels of a tree have its root, and on the way up its paths.
use Rattle.std.proofs.Common.{◌≡◌, ℕ, zero, suc, ◌+◌, ◌/◌, ◌<◌, ◌≤◌, List, [], ◌∷◌, ◌++◌, length, drop, get_or, refl, sym, ap, subst, ◌∙◌, arith, append_assoc, append-nil}
use Rattle.hash_kit.specs.declared.algorithm.HashAlg.{HashAlg}
use Rattle.hash_kit.specs.Node.{node_of}
use Rattle.hash_tree.specs.Tree.{root_within, tree_root, path_within, tree_path}
use Rattle.hash_tree.specs.Levels.{lowest}
use Rattle.hash_tree.specs.Inside.{pairs, beside, AreLevels, neighbours}
use Rattle.hash_tree.proofs.RootLemmas.{length_pairs}
use Rattle.hash_tree.proofs.PathLemmas.{path_step}

-- ---- the level above, pair by pair

pub pair_ahead : (alg : HashAlg) (p : ℕ) (l : List (List ℕ)) (x y : List ℕ) → p + 1 < length l → x ≡ get_or l p x → y ≡ get_or l (suc p) y
    → pairs alg (drop p l) ≡ node_of alg (x ∷ y ∷ []) ∷ pairs alg (drop (p + 2) l)
unfolding pairs
pair_ahead alg p [] x y h e f = absurd (omega (arith, h))
pair_ahead alg zero (v ∷ []) x y h e f = absurd (omega (arith, h))
pair_ahead alg zero (v ∷ w ∷ l) x y h e f = λ i. node_of alg (sym e i ∷ sym f i ∷ []) ∷ pairs alg l
pair_ahead alg (suc p) (v ∷ l) x y h e f =
    let n : suc (p + 2) ≡ suc p + 2 = omega arith in
    pair_ahead alg p l x y (omega (arith, h)) e f ∙ ap (λ (k : ℕ). node_of alg (x ∷ y ∷ []) ∷ pairs alg (drop k (v ∷ l))) n

pub last_ahead : (alg : HashAlg) (p : ℕ) (l : List (List ℕ)) (x : List ℕ) → p + 1 ≡ length l → x ≡ get_or l p x → pairs alg (drop p l) ≡ x ∷ []
unfolding pairs
last_ahead alg p [] x h e = absurd (omega (arith, h))
last_ahead alg zero (v ∷ []) x h e = ap (λ (y : List ℕ). y ∷ []) (sym e)
last_ahead alg zero (v ∷ w ∷ l) x h e = absurd (omega (arith, h))
last_ahead alg (suc p) (v ∷ l) x h e = last_ahead alg p l x (omega (arith, h)) e

pub nothing_ahead : (alg : HashAlg) (p : ℕ) (l : List (List ℕ)) → length l ≤ p → pairs alg (drop p l) ≡ []
unfolding pairs
nothing_ahead alg zero [] h = refl
nothing_ahead alg (suc p) [] h = refl
nothing_ahead alg zero (v ∷ l) h = absurd (omega (arith, h))
nothing_ahead alg (suc p) (v ∷ l) h = nothing_ahead alg p l (omega (arith, h))

-- ---- a list that grows by what is ahead

pub pushed : (before after rest ahead all : List (List ℕ)) (x : List ℕ) → after ≡ before ++ x ∷ [] → ahead ≡ x ∷ rest → before ++ ahead ≡ all → after ++ rest ≡ all
pushed before after rest ahead all x e f g =
    ap (λ (l : List (List ℕ)). l ++ rest) e ∙ append_assoc before (x ∷ []) rest ∙ ap (λ (l : List (List ℕ)). before ++ l) (sym f) ∙ g

pub added : (before after near rest ahead all : List (List ℕ)) → after ≡ before ++ near → ahead ≡ near ++ rest → before ++ ahead ≡ all → after ++ rest ≡ all
added before after near rest ahead all e f g =
    ap (λ (l : List (List ℕ)). l ++ rest) e ∙ append_assoc before near rest ∙ ap (λ (l : List (List ℕ)). before ++ l) (sym f) ∙ g

-- where nothing is ahead any more
pub finished : (before ahead all : List (List ℕ)) → ahead ≡ [] → before ++ ahead ≡ all → before ≡ all
finished before ahead all e f = sym (append-nil before) ∙ ap (λ (l : List (List ℕ)). before ++ l) (sym e) ∙ f

pub level_ahead : (levels : List (List (List ℕ))) (n i : ℕ) (level : List (List ℕ)) → n < length levels → level ≡ get_or levels n level → neighbours (drop n levels) i ≡ beside level i ++ neighbours (drop (n + 1) levels) (i / 2)
unfolding neighbours
level_ahead [] n i level h e = absurd (omega (arith, h))
level_ahead (l ∷ levels) zero i level h e = ap (λ (x : List (List ℕ)). beside x i ++ neighbours levels (i / 2)) (sym e)
level_ahead (l ∷ levels) (suc n) i level h e =
    let z : suc (n + 1) ≡ suc n + 1 = omega arith in
    level_ahead levels n i level (omega (arith, h)) e ∙ ap (λ (k : ℕ). beside level i ++ neighbours (drop k (l ∷ levels)) (i / 2)) z

pub none_ahead : (levels : List (List (List ℕ))) (n i : ℕ) → length levels ≤ n → neighbours (drop n levels) i ≡ []
unfolding neighbours
none_ahead [] zero i h = refl
none_ahead [] (suc n) i h = refl
none_ahead (l ∷ levels) zero i h = absurd (omega (arith, h))
none_ahead (l ∷ levels) (suc n) i h = none_ahead levels n i (omega (arith, h))

-- ---- levels

pub one_level : (alg : HashAlg) (l : List (List ℕ)) → length l ≡ 1 → AreLevels alg l (l ∷ [])
unfolding AreLevels
one_level alg l h = (refl, h)

pub level_below : (alg : HashAlg) (l : List (List ℕ)) (levels : List (List (List ℕ))) → AreLevels alg (pairs alg l) levels → AreLevels alg l (l ∷ levels)
unfolding AreLevels
level_below alg l [] h = absurd h
level_below alg l (level ∷ levels) h = (refl, h)

-- what stands below, with one level more
pub one_more : (alg : HashAlg) (leaves level : List (List ℕ)) (levels grown : List (List (List ℕ)))
    → ((above : List (List (List ℕ))) → AreLevels alg level above → AreLevels alg leaves (levels ++ above))
    → grown ≡ levels ++ level ∷ []
    → (above : List (List (List ℕ))) → AreLevels alg (pairs alg level) above → AreLevels alg leaves (grown ++ above)
one_more alg leaves level levels grown h e above is =
    subst (λ (l : List (List (List ℕ))). AreLevels alg leaves l) (sym (ap (λ (l : List (List (List ℕ))). l ++ above) e ∙ append_assoc levels (level ∷ []) above)) (h (level ∷ above) (level_below alg level above is))

-- the levels with the last one, of a single value
pub all_levels : (alg : HashAlg) (leaves level : List (List ℕ)) (levels grown : List (List (List ℕ)))
    → ((above : List (List (List ℕ))) → AreLevels alg level above → AreLevels alg leaves (levels ++ above))
    → grown ≡ levels ++ level ∷ [] → length level ≡ 1 → AreLevels alg leaves grown
all_levels alg leaves level levels grown h e one = subst (λ (l : List (List (List ℕ))). AreLevels alg leaves l) (sym e) (h (level ∷ []) (one_level alg level one))

pub are_lowest : (alg : HashAlg) (l : List (List ℕ)) (levels : List (List (List ℕ))) → AreLevels alg l levels → lowest levels ≡ l
unfolding AreLevels
are_lowest alg l [] h = absurd h
are_lowest alg l (level ∷ []) h = h.0
are_lowest alg l (level ∷ next ∷ levels) h = h.0

pub root_of_one : (alg : HashAlg) (l : List (List ℕ)) (x : List ℕ) → length l ≡ 1 → x ≡ get_or l 0 x → x ≡ tree_root alg l
unfolding root_within
root_of_one alg [] x h e = absurd (omega (arith, h))
root_of_one alg (v ∷ []) x h e = e
root_of_one alg (v ∷ w ∷ l) x h e = absurd (omega (arith, h))

path_of_one : (alg : HashAlg) (l : List (List ℕ)) (i : ℕ) → length l ≡ 1 → i < length l → beside l i ++ [] ≡ tree_path alg l i
unfolding beside path_within
path_of_one alg [] i h t = absurd (omega (arith, h))
path_of_one alg (v ∷ []) zero h t = refl
path_of_one alg (v ∷ []) (suc i) h t = absurd (omega (arith, t))
path_of_one alg (v ∷ w ∷ l) i h t = absurd (omega (arith, h))

pub levels_path : (alg : HashAlg) (levels : List (List (List ℕ))) (l : List (List ℕ)) (i : ℕ) → AreLevels alg l levels → i < length l → neighbours levels i ≡ tree_path alg l i
unfolding AreLevels neighbours
levels_path alg [] l i h t = absurd h
levels_path alg (level ∷ []) l i h t =
    ap (λ (x : List (List ℕ)). beside x i ++ []) h.0 ∙ path_of_one alg l i (ap length (sym h.0) ∙ h.1) t
levels_path alg (level ∷ next ∷ levels) l i h t =
    ap (λ (x : List (List ℕ)). beside x i ++ neighbours (next ∷ levels) (i / 2)) h.0
    ∙ ap (λ (x : List (List ℕ)). beside l i ++ x) (levels_path alg (next ∷ levels) (pairs alg l) (i / 2) h.1 (omega (arith, t, length_pairs alg l)))
    ∙ sym (path_step alg l i t)

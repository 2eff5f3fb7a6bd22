-- The nodes of a tree, and the climb from a node to the root along its path.
use Rattle.std.proofs.Common.{◌≡◌, ℕ, zero, suc, ◌+◌, ◌-◌, ◌*◌, ◌/◌, ◌%◌, ◌^◌, ◌<◌, ◌≤◌, Bool, true, false, List, [], length, get_or, take, drop, inl, inr, refl, sym, ap, subst, ◌∙◌, arith, eqb, mul_assoc, mul_comm, pow-suc, div-one, div-le_self, one-mul, if◌then◌else◌}
use Rattle.std.proofs.Math.Nat.{div-div-eq-div-mul, pow-le-pow_right, le-div_iff_mul-le}
use Rattle.std.proofs.lemmas.Nat.{div-mul-add}
use Rattle.std.proofs.lemmas.Bool.{cases_lt, cases_Bool, le-leb, lt-leb, eqb-true, eqb-false}
use Rattle.std.proofs.lemmas.List.{drop-drop, get_or_read}
use Rattle.lms_verify.specs.Lms.{height_of, parent_of, climbed}
use Rattle.lms_sign.specs.declared.secret.TreeSecret.{TreeSecret}
use Rattle.lms_sign.specs.Lms.{leaves_of, leaf_node, inner_node, node_within, node, sibling_of}
use Rattle.lms_sign.specs.Inside.{AreNodes}
use Rattle.lms_sign.proofs.Values.{length-hash_of}

pub one-le-pow : (n : ℕ) → 1 ≤ 2 ^ n
one-le-pow zero = omega arith
one-le-pow (suc n) = let h = one-le-pow n in let e = pow-suc 2 n in omega arith

-- a node that was made before
pub made_before : (tree : TreeSecret) (r x i : ℕ) (nodes : List (List ℕ)) (found : List ℕ) → AreNodes tree r nodes → r < x → x < 2 * leaves_of tree → i ≡ 2 * leaves_of tree - 1 - x → found ≡ get_or nodes i found → found ≡ node tree x
made_before tree r x i nodes found are low high place read =
    let within : i < length nodes = let e = are.count in omega arith in
    get_or_read nodes i found within read [] ∙ ap (λ k. get_or nodes k []) place ∙ are.each x low high

pub double : (n : ℕ) → 2 ^ suc n ≡ 2 * 2 ^ n
double n = pow-suc 2 n ∙ mul_comm (2 ^ n) 2

leaf_within : (height : ℕ) (tree : TreeSecret) (r : ℕ) → leaves_of tree ≤ r → node_within height tree r ≡ leaf_node tree r
unfolding node_within
leaf_within zero tree r h = refl
leaf_within (suc height) tree r h =
    ap (λ b. if b then leaf_node tree r else inner_node tree r (node_within height tree (2 * r)) (node_within height tree (2 * r + 1))) (le-leb (leaves_of tree) r h)

deep_zero : (tree : TreeSecret) (r : ℕ) → node_within zero tree r ≡ leaf_node tree r
unfolding node_within
deep_zero tree r = refl

inner_within : (height : ℕ) (tree : TreeSecret) (r : ℕ) → r < leaves_of tree → node_within (suc height) tree r ≡ inner_node tree r (node_within height tree (2 * r)) (node_within height tree (2 * r + 1))
unfolding node_within
inner_within height tree r h =
    ap (λ b. if b then leaf_node tree r else inner_node tree r (node_within height tree (2 * r)) (node_within height tree (2 * r + 1))) (lt-leb (leaves_of tree) r h)

moved : (r n : ℕ) → r * 2 ^ suc n ≡ 2 * r * 2 ^ n
moved r n = ap (λ p. r * p) (double n) ∙ sym (mul_assoc r 2 (2 ^ n)) ∙ ap (λ k. k * 2 ^ n) (mul_comm r 2)

right_too : (r p n : ℕ) → n ≤ 2 * r * p → n ≤ (2 * r + 1) * p
right_too r p n h = grind arith

-- more levels than there are below a node change nothing
deep_enough : (height : ℕ) (tree : TreeSecret) (r : ℕ) → leaves_of tree ≤ r * 2 ^ height → node_within height tree r ≡ node_within (suc height) tree r
deep_enough zero tree r h =
    let low : leaves_of tree ≤ r = omega arith in leaf_within zero tree r low ∙ sym (leaf_within 1 tree r low)
deep_enough (suc height) tree r h = elim (cases_lt r (leaves_of tree)) [
  | inl inside ↦
      let left : leaves_of tree ≤ 2 * r * 2 ^ height = subst (λ n. leaves_of tree ≤ n) (moved r height) h in
      let right : leaves_of tree ≤ (2 * r + 1) * 2 ^ height = right_too r (2 ^ height) (leaves_of tree) left in
      inner_within height tree r inside
      ∙ (λ k. inner_node tree r (deep_enough height tree (2 * r) left k) (deep_enough height tree (2 * r + 1) right k))
      ∙ sym (inner_within (suc height) tree r inside)
  | inr low ↦ leaf_within (suc height) tree r low ∙ sym (leaf_within (suc (suc height)) tree r low)
]

-- T[r] from 2^h on (RFC 8554, 5.3)
pub node_leaf : (tree : TreeSecret) (r : ℕ) → leaves_of tree ≤ r → node tree r ≡ leaf_node tree r
unfolding node
node_leaf tree r h = leaf_within (height_of tree.lms_type) tree r h

some_below : (height : ℕ) (tree : TreeSecret) (r : ℕ) → leaves_of tree ≡ 2 ^ height → 0 < r → r < leaves_of tree → node_within height tree r ≡ inner_node tree r (node_within height tree (2 * r)) (node_within height tree (2 * r + 1))
some_below zero tree r e some h = absurd (omega arith)
some_below (suc height) tree r e some h =
    let half : leaves_of tree ≡ 2 * 2 ^ height = e ∙ double height in
    let left : leaves_of tree ≤ 2 * r * 2 ^ height = grind arith in
    let right : leaves_of tree ≤ (2 * r + 1) * 2 ^ height = right_too r (2 ^ height) (leaves_of tree) left in
    inner_within height tree r h
    ∙ (λ k. inner_node tree r (deep_enough height tree (2 * r) left k) (deep_enough height tree (2 * r + 1) right k))

-- T[r] below 2^h (RFC 8554, 5.3)
pub node_inner : (tree : TreeSecret) (r : ℕ) → 0 < r → r < leaves_of tree → node tree r ≡ inner_node tree r (node tree (2 * r)) (node tree (2 * r + 1))
unfolding node
node_inner tree r some h = some_below (height_of tree.lms_type) tree r refl some h

-- ---- the climb

sibling_is : (r : ℕ) (b : Bool) → eqb (r % 2) 1 ≡ b → sibling_of r ≡ (if b then r - 1 else r + 1)
sibling_is r b e = ap (λ t. if t then r - 1 else r + 1) e

parent_by : (tree : TreeSecret) (r : ℕ) (a s : List ℕ) (b : Bool) → eqb (r % 2) 1 ≡ b → parent_of tree.identifier r a s ≡ (if b then inner_node tree (r / 2) s a else inner_node tree (r / 2) a s)
unfolding parent_of inner_node
parent_by tree r a s b e = ap (λ t. if t then inner_node tree (r / 2) s a else inner_node tree (r / 2) a s) e

pub parent_is : (tree : TreeSecret) (r : ℕ) → 2 ≤ r → r < 2 * leaves_of tree → parent_of tree.identifier r (node tree r) (node tree (sibling_of r)) ≡ node tree (r / 2)
parent_is tree r some h = elim (cases_Bool (eqb (r % 2) 1)) [
  | inl odd ↦
      let one : r % 2 ≡ 1 = eqb-true (r % 2) 1 odd in
      let left : sibling_of r ≡ 2 * (r / 2) = sibling_is r true odd ∙ omega arith in
      let right : r ≡ 2 * (r / 2) + 1 = omega arith in
      parent_by tree r _ _ true odd
      ∙ (λ k. inner_node tree (r / 2) (node tree (left k)) (node tree (right k)))
      ∙ sym (node_inner tree (r / 2) (omega arith) (omega arith))
  | inr even ↦
      let none : r % 2 ≡ 1 → ⊥ = eqb-false (r % 2) 1 even in
      let right : sibling_of r ≡ 2 * (r / 2) + 1 = sibling_is r false even ∙ omega arith in
      let left : r ≡ 2 * (r / 2) = omega arith in
      parent_by tree r _ _ false even
      ∙ (λ k. inner_node tree (r / 2) (node tree (left k)) (node tree (right k)))
      ∙ sym (node_inner tree (r / 2) (omega arith) (omega arith))
]

pub halved : (r i : ℕ) → r / 2 / 2 ^ i ≡ r / 2 ^ suc i
halved r i = div-div-eq-div-mul r 2 (2 ^ i) ∙ ap (λ n. r / n) (sym (double i))

pub climb_is : (count : ℕ) (tree : TreeSecret) (r : ℕ) (path : List ℕ) → 2 ^ count ≤ r → r < 2 * leaves_of tree → ((i : ℕ) → i < count → take 32 (drop (32 * i) path) ≡ node tree (sibling_of (r / 2 ^ i))) → climbed count tree.identifier r path (node tree r) ≡ node tree (r / 2 ^ count)
unfolding climbed
climb_is zero tree r path low high h = ap (node tree) (sym (div-one r))
climb_is (suc count) tree r path low high h =
    let twice = double count in
    let some : 2 ≤ r = omega (arith, one-le-pow count) in
    let first : take 32 path ≡ node tree (sibling_of r) = h 0 (omega arith) ∙ ap (λ n. node tree (sibling_of n)) (div-one r) in
    let above : parent_of tree.identifier r (node tree r) (take 32 path) ≡ node tree (r / 2) =
    ap (parent_of tree.identifier r (node tree r)) first ∙ parent_is tree r some high in
    let later : (i : ℕ) → i < count → take 32 (drop (32 * i) (drop 32 path)) ≡ node tree (sibling_of (r / 2 / 2 ^ i)) =
    λ i below.
    let place : 32 + 32 * i ≡ 32 * suc i = omega arith in
    ap (take 32) (drop-drop (32 * i) 32 path ∙ ap (λ n. drop n path) place) ∙ h (suc i) (omega arith)
    ∙ ap (λ n. node tree (sibling_of n)) (sym (halved r i)) in
    ap (climbed count tree.identifier (r / 2) (drop 32 path)) above
    ∙ climb_is count tree (r / 2) (drop 32 path) (omega arith) (omega arith) later
    ∙ ap (node tree) (halved r count)

-- on the way up from a leaf the node is below the root
pub above_root : (height leaf level : ℕ) → level < height → 2 ≤ (2 ^ height + leaf) / 2 ^ level
above_root height leaf level h =
    let step = double level in
    let most : 2 ^ suc level ≤ 2 ^ height = pow-le-pow_right (omega arith) (omega arith) in
    let enough : 2 * 2 ^ level ≤ 2 ^ height + leaf = omega arith in
    let some : 0 < 2 ^ level = let p = one-le-pow level in omega arith in
    (le-div_iff_mul-le some).1 enough

-- and one of the tree
pub in_tree : (height leaf level : ℕ) → leaf < 2 ^ height → (2 ^ height + leaf) / 2 ^ level < 2 * 2 ^ height
in_tree height leaf level h = let e = div-le_self (2 ^ height + leaf) (2 ^ level) in omega arith

pub sibling_in : (r n : ℕ) → 2 ≤ r → r < 2 * n → sibling_of r < 2 * n
sibling_in r n some h = elim (cases_Bool (eqb (r % 2) 1)) [
  | inl odd ↦ let e = sibling_is r true odd in omega arith
  | inr even ↦
      let e = sibling_is r false even in
      let none : r % 2 ≡ 1 → ⊥ = eqb-false (r % 2) 1 even in
      omega arith
]

pub sibling_some : (r : ℕ) → 2 ≤ r → 0 < sibling_of r
sibling_some r some = elim (cases_Bool (eqb (r % 2) 1)) [
  | inl odd ↦ let e = sibling_is r true odd in omega arith
  | inr even ↦ let e = sibling_is r false even in omega arith
]

pub root_at_last : (height leaf : ℕ) → leaf < 2 ^ height → (2 ^ height + leaf) / 2 ^ height ≡ 1
root_at_last height leaf h =
    ap (λ n. (n + leaf) / 2 ^ height) (sym (one-mul (2 ^ height))) ∙ div-mul-add 1 (2 ^ height) leaf h

pub halved_more : (n level : ℕ) → n / 2 ^ level / 2 ≡ n / 2 ^ (level + 1)
halved_more n level =
    let e : level + 1 ≡ suc level = omega arith in
    div-div-eq-div-mul n (2 ^ level) 2 ∙ ap (λ k. n / k) (sym (pow-suc 2 level)) ∙ ap (λ k. n / 2 ^ k) (sym e)

length-leaf_node : (tree : TreeSecret) (r : ℕ) → length (leaf_node tree r) ≡ 32
unfolding leaf_node
length-leaf_node tree r = length-hash_of _ _ _ _

length-inner_node : (tree : TreeSecret) (r : ℕ) (left right : List ℕ) → length (inner_node tree r left right) ≡ 32
unfolding inner_node
length-inner_node tree r left right = length-hash_of _ _ _ _

length-within : (height : ℕ) (tree : TreeSecret) (r : ℕ) → length (node_within height tree r) ≡ 32
length-within zero tree r = ap length (deep_zero tree r) ∙ length-leaf_node tree r
length-within (suc height) tree r = elim (cases_lt r (leaves_of tree)) [
  | inl h ↦ ap length (inner_within height tree r h) ∙ length-inner_node tree r _ _
  | inr h ↦ ap length (leaf_within (suc height) tree r h) ∙ length-leaf_node tree r
]

pub length-node : (tree : TreeSecret) (r : ℕ) → length (node tree r) ≡ 32
unfolding node
length-node tree r = length-within (height_of tree.lms_type) tree r

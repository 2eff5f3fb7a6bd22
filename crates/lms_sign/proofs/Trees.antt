-- A signature of a tree verifies under the tree's public key.
use Rattle.std.proofs.Common.{◌≡◌, ℕ, ◌+◌, ◌-◌, ◌*◌, ◌^◌, ◌<◌, ◌≤◌, true, List, ◌++◌, length, take, drop, inl, inr, refl, sym, ap, subst, ◌∙◌, arith, append_assoc, length-append, length-drop}
use Rattle.std.specs.Prelude.{nat_eq}
use Rattle.std.specs.Int.{w32, to_be_bytes}
use Rattle.std.specs.Cmp.Lexicographic.{pointwise}
use Rattle.std.proofs.lemmas.Bool.{and_from, eq-eqb, lt-ltb}
use Rattle.std.proofs.lemmas.Cmp.{nat_list_eq_equiv}
use Rattle.std.proofs.lemmas.Nat.{from_be_bytes-to_be_bytes_4}
use Rattle.std.proofs.lemmas.List.{drop-drop, take_all}
use Rattle.hash_kit.specs.HssKey.{u32_at, lms_type_of, ots_type_of, identifier_of, root_of, is_lms_type, is_ots_type, has_types, is_lms_key}
use Rattle.lms_verify.specs.Ots.{set_of, hash_of, message_hash, ots_candidate}
use Rattle.lms_verify.specs.Lms.{height_of, signature_size, size_of, leaf_in, ots_type_in, randomizer_in, values_in, lms_type_in, path_in, climbed, root_candidate, root_by, has_form, lms_verifies}
use Rattle.lms_verify.proofs.Chains.{length-joined, taken}
use Rattle.lms_sign.specs.declared.secret.TreeSecret.{TreeSecret}
use Rattle.lms_sign.specs.Ots.{randomizer_of, signed_values, ots_key, ots_signature}
use Rattle.lms_sign.specs.Lms.{leaves_of, leaf_node, node, path_of, lms_public, lms_signature}
use Rattle.lms_sign.specs.Inside.{IsTree}
use Rattle.lms_sign.proofs.Values.{length-hash_of, length-signed_values, candidate_is}
use Rattle.lms_sign.proofs.Nodes.{length-node, node_leaf, climb_is, root_at_last}
use Rattle.lms_sign.proofs.Fields.{take_front, drop_front}

-- ---- what a tree keeps

pub few_leaves : (tree : TreeSecret) → IsTree tree → leaves_of tree ≤ 1024
few_leaves tree known = elim known.height [
  | inl e ↦ subst (λ n. 2 ^ height_of n ≤ 1024) (sym e) (omega arith)
  | inr e ↦ subst (λ n. 2 ^ height_of n ≤ 1024) (sym e) (omega arith)
]

small_type : (tree : TreeSecret) → IsTree tree → tree.lms_type < 10
small_type tree known = elim known.height [ inl e ↦ omega arith | inr e ↦ omega arith ]

great_type : (tree : TreeSecret) → IsTree tree → 4 < tree.lms_type
great_type tree known = elim known.height [ inl e ↦ omega arith | inr e ↦ omega arith ]

-- ---- the fields of the public key

pub length-lms_public : (tree : TreeSecret) → IsTree tree → length (lms_public tree) ≡ 56
unfolding lms_public
length-lms_public tree known =
    omega (arith, length-append tree.identifier (node tree 1), length-node tree 1, known.identifier)

pub lms_type_is : (tree : TreeSecret) → IsTree tree → lms_type_of (lms_public tree) ≡ tree.lms_type
unfolding lms_public
lms_type_is tree known = from_be_bytes-to_be_bytes_4 tree.lms_type (omega (arith, small_type tree known))

pub ots_type_is : (tree : TreeSecret) → IsTree tree → ots_type_of (lms_public tree) ≡ tree.ots_type
unfolding lms_public
ots_type_is tree known = from_be_bytes-to_be_bytes_4 tree.ots_type (omega (arith, known.ots_most))

pub identifier_is : (tree : TreeSecret) → IsTree tree → identifier_of (lms_public tree) ≡ tree.identifier
unfolding lms_public
identifier_is tree known = take_front 16 tree.identifier (node tree 1) known.identifier

pub root_is : (tree : TreeSecret) → IsTree tree → root_of (lms_public tree) ≡ node tree 1
unfolding lms_public
root_is tree known =
    ap (take 32) (drop_front 16 tree.identifier (node tree 1) known.identifier)
    ∙ take_all 32 (node tree 1) (omega (arith, length-node tree 1))

pub types_known : (tree : TreeSecret) → IsTree tree → has_types (lms_public tree) ≡ true
types_known tree known =
    let lms = lms_type_is tree known in
    let ots = ots_type_is tree known in
    and_from _ _ (ap is_lms_type lms
    ∙ and_from _ _ (lt-ltb 4 tree.lms_type (great_type tree known)) (lt-ltb tree.lms_type 10 (small_type tree known))) (ap is_ots_type ots
    ∙ and_from _ _ (lt-ltb 0 tree.ots_type (omega (arith, known.ots_some))) (lt-ltb tree.ots_type 5 (omega (arith, known.ots_most))))

is_key : (tree : TreeSecret) → IsTree tree → is_lms_key (lms_public tree) ≡ true
is_key tree known =
    and_from _ _ (eq-eqb (length (lms_public tree)) 56 (length-lms_public tree known)) (types_known tree known)

-- ---- the fields of a signature

signed_hash : TreeSecret → ℕ → List ℕ → List ℕ
signed_hash tree leaf message = message_hash tree.identifier leaf (randomizer_of tree leaf) message

values_of : TreeSecret → ℕ → List ℕ → List ℕ
values_of tree leaf message = signed_values tree leaf (signed_hash tree leaf message)

length-randomizer_of : (tree : TreeSecret) (leaf : ℕ) → length (randomizer_of tree leaf) ≡ 32
unfolding randomizer_of
length-randomizer_of tree leaf = length-hash_of _ _ _ _

length-path_of : (tree : TreeSecret) (leaf : ℕ) → length (path_of tree leaf) ≡ 32 * height_of tree.lms_type
unfolding path_of
length-path_of tree leaf = length-joined _ (λ i. length-node tree _) (height_of tree.lms_type)

-- what stands behind the numbers of the leaf and of the type
behind_8 : (tree : TreeSecret) (leaf : ℕ) (message : List ℕ) → drop 8 (lms_signature tree leaf message) ≡ randomizer_of tree leaf ++ (values_of tree leaf message ++ (to_be_bytes w32 tree.lms_type ++ path_of tree leaf))
unfolding lms_signature ots_signature values_of signed_hash
behind_8 tree leaf message =
    let values : List ℕ = values_of tree leaf message in
    let rest : List ℕ = path_of tree leaf in
    append_assoc (randomizer_of tree leaf ++ values) (to_be_bytes w32 tree.lms_type) rest
    ∙ append_assoc (randomizer_of tree leaf) values (to_be_bytes w32 tree.lms_type ++ rest)

-- the values, and what stands behind them
behind_40 : (tree : TreeSecret) (leaf : ℕ) (message : List ℕ) → drop 40 (lms_signature tree leaf message) ≡ values_of tree leaf message ++ (to_be_bytes w32 tree.lms_type ++ path_of tree leaf)
behind_40 tree leaf message =
    sym (drop-drop 32 8 (lms_signature tree leaf message))
    ∙ ap (drop 32) (behind_8 tree leaf message)
    ∙ drop_front 32 (randomizer_of tree leaf) _ (length-randomizer_of tree leaf)

length-values_of : (tree : TreeSecret) (leaf : ℕ) (message : List ℕ) → length (values_of tree leaf message) ≡ 32 * (set_of tree.ots_type).digits
unfolding values_of
length-values_of tree leaf message = length-signed_values tree leaf (signed_hash tree leaf message)

-- the type and the path, which stand behind so many digits
behind_values : (tree : TreeSecret) (leaf : ℕ) (message : List ℕ) (n : ℕ) → n ≡ 32 * (set_of tree.ots_type).digits → drop (40 + n) (lms_signature tree leaf message) ≡ to_be_bytes w32 tree.lms_type ++ path_of tree leaf
behind_values tree leaf message n h =
    sym (drop-drop n 40 (lms_signature tree leaf message))
    ∙ ap (drop n) (behind_40 tree leaf message)
    ∙ drop_front n (values_of tree leaf message) _ (length-values_of tree leaf message ∙ sym h)

behind_type : (tree : TreeSecret) (leaf : ℕ) (message : List ℕ) (n : ℕ) → n ≡ 32 * (set_of tree.ots_type).digits → drop (44 + n) (lms_signature tree leaf message) ≡ path_of tree leaf
behind_type tree leaf message n h =
    let place : 44 + n ≡ 40 + n + 4 = omega arith in
    ap (λ k. drop k (lms_signature tree leaf message)) place
    ∙ sym (drop-drop 4 (40 + n) (lms_signature tree leaf message))
    ∙ ap (drop 4) (behind_values tree leaf message n h)

sizes : (s c y d p : List ℕ) (n h : ℕ) → drop 8 s ≡ c ++ (y ++ (d ++ p)) → 8 ≤ length s → length c ≡ 32 → length y ≡ n → length d ≡ 4 → length p ≡ h → length s ≡ 4 + (4 + 32 + n) + 4 + h
sizes s c y d p n h e long lc ly ld lp =
    omega (arith, ap length e, length-drop 8 s, length-append c (y ++ (d ++ p)), length-append y (d ++ p), length-append d p)

at_least_8 : (tree : TreeSecret) (leaf : ℕ) (message : List ℕ) → 8 ≤ length (lms_signature tree leaf message)
unfolding lms_signature ots_signature
at_least_8 tree leaf message = omega arith

pub length-lms_signature : (tree : TreeSecret) (leaf : ℕ) (message : List ℕ) → length (lms_signature tree leaf message) ≡ signature_size (set_of tree.ots_type) (height_of tree.lms_type)
length-lms_signature tree leaf message =
    sizes (lms_signature tree leaf message) _ _ (to_be_bytes w32 tree.lms_type) _ _ _ (behind_8 tree leaf message) (at_least_8 tree leaf message) (length-randomizer_of tree leaf) (length-values_of tree leaf message) refl (length-path_of tree leaf)

leaf_is : (tree : TreeSecret) (leaf : ℕ) (message : List ℕ) → leaf < 1024 → leaf_in (lms_signature tree leaf message) ≡ leaf
unfolding lms_signature
leaf_is tree leaf message h = from_be_bytes-to_be_bytes_4 leaf (omega arith)

ots_type_in_is : (tree : TreeSecret) (leaf : ℕ) (message : List ℕ) → IsTree tree → ots_type_in (lms_signature tree leaf message) ≡ tree.ots_type
unfolding lms_signature ots_signature
ots_type_in_is tree leaf message known = from_be_bytes-to_be_bytes_4 tree.ots_type (omega (arith, known.ots_most))

randomizer_is : (tree : TreeSecret) (leaf : ℕ) (message : List ℕ) → randomizer_in (lms_signature tree leaf message) ≡ randomizer_of tree leaf
randomizer_is tree leaf message =
    ap (take 32) (behind_8 tree leaf message) ∙ take_front 32 (randomizer_of tree leaf) _ (length-randomizer_of tree leaf)

values_are : (tree : TreeSecret) (leaf : ℕ) (message : List ℕ) → values_in (set_of tree.ots_type) (lms_signature tree leaf message) ≡ values_of tree leaf message
values_are tree leaf message =
    ap (take (32 * (set_of tree.ots_type).digits)) (behind_40 tree leaf message)
    ∙ take_front _ (values_of tree leaf message) _ (length-values_of tree leaf message)

lms_type_in_is : (tree : TreeSecret) (leaf : ℕ) (message : List ℕ) → IsTree tree → lms_type_in (set_of tree.ots_type) (lms_signature tree leaf message) ≡ tree.lms_type
lms_type_in_is tree leaf message known =
    ap (u32_at 0) (behind_values tree leaf message _ refl) ∙ from_be_bytes-to_be_bytes_4 tree.lms_type (omega (arith, small_type tree known))

path_is : (tree : TreeSecret) (leaf : ℕ) (message : List ℕ) → path_in (set_of tree.ots_type) (lms_signature tree leaf message) ≡ path_of tree leaf
path_is tree leaf message = behind_type tree leaf message _ refl

-- ---- what a verifier finds

-- the size is that of the key's types
pub size_is : (tree : TreeSecret) → IsTree tree → size_of (lms_public tree) ≡ signature_size (set_of tree.ots_type) (height_of tree.lms_type)
size_is tree known = λ k. signature_size (set_of (ots_type_is tree known k)) (height_of (lms_type_is tree known k))

form_is : (tree : TreeSecret) (leaf : ℕ) (message : List ℕ) → IsTree tree → leaf < leaves_of tree → has_form (lms_public tree) (lms_signature tree leaf message) ≡ true
unfolding has_form
form_is tree leaf message known low =
    let key : List ℕ = lms_public tree in
    let s : List ℕ = lms_signature tree leaf message in
    let few : leaf < 1024 = omega (arith, few_leaves tree known) in
    let ots = ots_type_is tree known in
    let lms = lms_type_is tree known in
    let long : length s ≡ size_of key = length-lms_signature tree leaf message ∙ sym (size_is tree known) in
    let first : ots_type_in s ≡ ots_type_of key = ots_type_in_is tree leaf message known ∙ sym ots in
    let second : lms_type_in (set_of (ots_type_of key)) s ≡ lms_type_of key =
    (λ k. lms_type_in (set_of (ots k)) s) ∙ lms_type_in_is tree leaf message known ∙ sym lms in
    let third : leaf_in s < 2 ^ height_of (lms_type_of key) =
    subst (λ n. n < 2 ^ height_of (lms_type_of key)) (sym (leaf_is tree leaf message few)) (subst (λ n. leaf < 2 ^ height_of n) (sym lms) low) in
    and_from _ _ (and_from _ _ (and_from _ _ (eq-eqb (length s) (size_of key) long) (eq-eqb _ _ first)) (eq-eqb _ _ second)) (lt-ltb _ _ third)

key_found : (tree : TreeSecret) (leaf : ℕ) (message : List ℕ) → ots_candidate (set_of tree.ots_type) tree.identifier leaf (message_hash tree.identifier leaf (randomizer_of tree leaf) message) (values_of tree leaf message) ≡ ots_key tree leaf
unfolding values_of signed_hash
key_found tree leaf message = candidate_is tree leaf (signed_hash tree leaf message)

climbs : (tree : TreeSecret) (leaf : ℕ) → leaf < leaves_of tree → root_candidate tree.identifier (height_of tree.lms_type) leaf (ots_key tree leaf) (path_of tree leaf) ≡ node tree 1
unfolding root_candidate leaf_node path_of
climbs tree leaf low =
    let height = height_of tree.lms_type in
    let r : ℕ = leaves_of tree + leaf in
    let number : leaf ≡ r - leaves_of tree = omega arith in
    let start : hash_of tree.identifier r 0x8282 (ots_key tree leaf) ≡ node tree r =
    ap (λ n. hash_of tree.identifier r 0x8282 (ots_key tree n)) number ∙ sym (node_leaf tree r (omega arith)) in
    ap (climbed height tree.identifier r (path_of tree leaf)) start
    ∙ climb_is height tree r (path_of tree leaf) (omega arith) (omega arith) (taken _ (λ i. length-node tree _) height)
    ∙ ap (node tree) (root_at_last height leaf low)

root_found : (tree : TreeSecret) (leaf : ℕ) (message : List ℕ) → IsTree tree → leaf < leaves_of tree → root_by (lms_public tree) message (lms_signature tree leaf message) ≡ node tree 1
unfolding root_by
root_found tree leaf message known low =
    let s : List ℕ = lms_signature tree leaf message in
    let few : leaf < 1024 = omega (arith, few_leaves tree known) in
    let ots = ots_type_is tree known in
    let lms = lms_type_is tree known in
    let identifier = identifier_is tree known in
    let at = leaf_is tree leaf message few in
    let values : values_in (set_of (ots_type_of (lms_public tree))) s ≡ values_of tree leaf message =
    ap (λ n. values_in (set_of n) s) ots ∙ values_are tree leaf message in
    let path : path_in (set_of (ots_type_of (lms_public tree))) s ≡ path_of tree leaf =
    ap (λ n. path_in (set_of n) s) ots ∙ path_is tree leaf message in
    let randomizer = randomizer_is tree leaf message in
    (λ k. root_candidate (identifier k) (height_of (lms k)) (at k) (ots_candidate (set_of (ots k)) (identifier k) (at k) (message_hash (identifier k) (at k) (randomizer k) message) (values k)) (path k))
    ∙ ap (λ key. root_candidate tree.identifier (height_of tree.lms_type) leaf key (path_of tree leaf)) (key_found tree leaf message)
    ∙ climbs tree leaf low

-- what a leaf signs verifies (RFC 8554, 5.4)
pub lms_signs : (tree : TreeSecret) (leaf : ℕ) (message : List ℕ) → IsTree tree → leaf < leaves_of tree → lms_verifies (lms_public tree) message (lms_signature tree leaf message) ≡ true
unfolding lms_verifies
lms_signs tree leaf message known low =
    let same : root_by (lms_public tree) message (lms_signature tree leaf message) ≡ root_of (lms_public tree) =
    root_found tree leaf message known low ∙ sym (root_is tree known) in
    and_from _ _ (and_from _ _ (is_key tree known) (form_is tree leaf message known low)) (subst (λ r. pointwise nat_eq (root_by (lms_public tree) message (lms_signature tree leaf message)) r ≡ true) same (nat_list_eq_equiv.refl (root_by (lms_public tree) message (lms_signature tree leaf message))))

-- A signature of a key verifies under the public key: level by level.
use Rattle.std.proofs.Common.{◌≡◌, ℕ, zero, suc, ◌+◌, ◌-◌, ◌*◌, ◌/◌, ◌^◌, ◌<◌, ◌≤◌, true, List, [], ◌∷◌, ◌++◌, length, take, drop, inl, inr, refl, sym, ap, subst, ◌∙◌, arith, append_assoc, append-nil, not, Some, None, if◌then◌else◌, length-append, length-take-le, mod-lt}
use Rattle.std.specs.Int.{w32, to_be_bytes}
use Rattle.std.proofs.Math.Nat.{div-eq_of_lt}
use Rattle.std.proofs.lemmas.Bool.{and_from, eq-eqb, lt-ltb, le-leb}
use Rattle.std.proofs.lemmas.Nat.{from_be_bytes-to_be_bytes_4}
use Rattle.std.proofs.lemmas.List.{drop-drop}
use Rattle.hash_kit.specs.Digest.{digest_of}
use Rattle.hash_kit.specs.HssKey.{u32_at, levels_of, has_key_shape, has_levels, key_fault}
use Rattle.hash_kit.specs.declared.key.KeyFault.TheVariants.{KeyShape, Levels}
use Rattle.hash_kit.specs.declared.algorithm.HashAlg.TheVariants.{Sha256}
use Rattle.hash_kit.proofs.Sizes.{length-digest_of}
use Rattle.lms_verify.specs.Ots.{joined}
use Rattle.lms_verify.specs.Lms.{height_of, size_of, lms_verifies}
use Rattle.lms_verify.specs.Hss.{Verifies, next_key, behind_next, next_is_signed, levels_verify, hss_verifies}
use Rattle.lms_sign.specs.declared.secret.HssSecret.{HssSecret}
use Rattle.lms_sign.specs.declared.secret.TreeSecret.{TreeSecret}
use Rattle.lms_sign.specs.Lms.{leaves_of, lms_public, lms_signature}
use Rattle.lms_sign.specs.Hss.{signatures_of, number_at, leaf_at, tree_name, tree_numbered, tree_at, hss_public, signed_key, hss_signature}
use Rattle.lms_sign.specs.Inside.{IsTree, IsKey, signed_below}
use Rattle.lms_sign.proofs.Nodes.{one-le-pow}
use Rattle.lms_sign.proofs.Trees.{types_known, length-lms_public, length-lms_signature, size_is, lms_signs}
use Rattle.lms_sign.proofs.Fields.{take_front, drop_front}

pub known_tree : (key : HssSecret) (level number : ℕ) → IsKey key → IsTree (tree_numbered key level number)
unfolding tree_numbered
known_tree key level number known =
    let size = length-digest_of Sha256 (tree_name key level number ++ 1 ∷ []) in
    record {
      height = known.height;
      ots_some = known.ots_some;
      ots_most = known.ots_most;
      identifier = length-take-le 16 (digest_of Sha256 (tree_name key level number ++ 1 ∷ [])) (omega (arith, size));
      seed = length-digest_of Sha256 (tree_name key level number);
    }

pub same_leaves : (key : HssSecret) (level number : ℕ) → leaves_of (tree_numbered key level number) ≡ 2 ^ height_of key.lms_type
unfolding tree_numbered
same_leaves key level number = refl

pub leaf_below : (key : HssSecret) (index level : ℕ) → leaf_at key index level < leaves_of (tree_at key index level)
leaf_below key index level =
    subst (λ n. leaf_at key index level < n) (sym (same_leaves key level (number_at key index level))) (mod-lt _ (one-le-pow (height_of key.lms_type)))

-- ---- a signed public key, and what stands behind it

pub next_is : (t u : TreeSecret) (leaf : ℕ) (rest : List ℕ) → IsTree t → IsTree u → next_key (lms_public t) (lms_signature t leaf (lms_public u) ++ lms_public u ++ rest) ≡ lms_public u
next_is t u leaf rest kt ku =
    let next : List ℕ = lms_public u in
    let s : List ℕ = lms_signature t leaf next in
    let n : ℕ = size_of (lms_public t) in
    let long : length s ≡ n = length-lms_signature t leaf next ∙ sym (size_is t kt) in
    ap (take 56) (ap (drop n) (append_assoc s next rest) ∙ drop_front n s (next ++ rest) long)
    ∙ take_front 56 next rest (length-lms_public u ku)

pub behind_is : (t u : TreeSecret) (leaf : ℕ) (rest : List ℕ) → IsTree t → IsTree u → behind_next (lms_public t) (lms_signature t leaf (lms_public u) ++ lms_public u ++ rest) ≡ rest
behind_is t u leaf rest kt ku =
    let next : List ℕ = lms_public u in
    let s : List ℕ = lms_signature t leaf next in
    let n : ℕ = size_of (lms_public t) in
    let long : length s ≡ n = length-lms_signature t leaf next ∙ sym (size_is t kt) in
    sym (drop-drop 56 n (s ++ next ++ rest))
    ∙ ap (drop 56) (ap (drop n) (append_assoc s next rest) ∙ drop_front n s (next ++ rest) long)
    ∙ drop_front 56 next rest (length-lms_public u ku)

pub signed_parts : (t u : TreeSecret) (leaf : ℕ) (rest : List ℕ) → IsTree t → IsTree u → leaf < leaves_of t → next_is_signed (lms_public t) (lms_signature t leaf (lms_public u) ++ lms_public u ++ rest) ≡ true
unfolding next_is_signed
signed_parts t u leaf rest kt ku low =
    let next : List ℕ = lms_public u in
    let s : List ℕ = lms_signature t leaf next in
    let n : ℕ = size_of (lms_public t) in
    let long : length s ≡ n = length-lms_signature t leaf next ∙ sym (size_is t kt) in
    let whole : s ++ next ++ rest ≡ s ++ (next ++ rest) = append_assoc s next rest in
    let front : take n (s ++ next ++ rest) ≡ s = ap (take n) whole ∙ take_front n s (next ++ rest) long in
    let size : n + 56 ≤ length (s ++ next ++ rest) =
    omega (arith, length-append (s ++ next) rest, length-append s next, length-lms_public u ku) in
    and_from _ _ (le-leb (n + 56) (length (s ++ next ++ rest)) size) ((λ k. lms_verifies (lms_public t) (next_is t u leaf rest kt ku k) (front k)) ∙ lms_signs t leaf next kt low)

-- ---- all levels

levels_sign : (count : ℕ) (key : HssSecret) (index level : ℕ) (message : List ℕ) → IsKey key → levels_verify count (lms_public (tree_at key index level)) message (signed_below count key index level message) ≡ true
unfolding levels_verify signed_below signed_key
levels_sign zero key index level message known =
    lms_signs (tree_at key index level) (leaf_at key index level) message (known_tree key level _ known) (leaf_below key index level)
levels_sign (suc count) key index level message known =
    let t : TreeSecret = tree_at key index level in
    let u : TreeSecret = tree_at key index (level + 1) in
    let kt : IsTree t = known_tree key level _ known in
    let ku : IsTree u = known_tree key (level + 1) _ known in
    let leaf : ℕ = leaf_at key index level in
    let rest : List ℕ = signed_below count key index (level + 1) message in
    and_from _ _ (signed_parts t u leaf rest kt ku (leaf_below key index level)) ((λ k. levels_verify count (next_is t u leaf rest kt ku k) message (behind_is t u leaf rest kt ku k))
    ∙ levels_sign count key index (level + 1) message known)

first_part : (f : ℕ → List ℕ) (count : ℕ) → joined f (suc count) ≡ f 0 ++ joined (λ i. f (suc i)) count
first_part f zero = sym (append-nil (f 0))
first_part f (suc count) =
    ap (λ l. l ++ f (suc count)) (first_part f count) ∙ append_assoc (f 0) (joined (λ i. f (suc i)) count) (f (suc count))

abbrev pub last_at : HssSecret → ℕ → List ℕ → ℕ → List ℕ
last_at key index message level = lms_signature (tree_at key index level) (leaf_at key index level) message

pub below_is : (count : ℕ) (key : HssSecret) (index level : ℕ) (message : List ℕ) → signed_below count key index level message ≡ joined (λ i. signed_key key index (level + i)) count ++ last_at key index message (level + count)
unfolding signed_below
below_is zero key index level message =
    let at : level ≡ level + 0 = omega arith in ap (last_at key index message) at
below_is (suc count) key index level message =
    let at : level ≡ level + 0 = omega arith in
    let more : (i : ℕ) → level + 1 + i ≡ level + suc i = λ i. omega arith in
    let f : ℕ → List ℕ = (λ i. signed_key key index (level + i)) in
    let later : List ℕ = joined (λ i. f (suc i)) count in
    ap (λ l. signed_key key index level ++ l) (below_is count key index (level + 1) message)
    ∙ (λ k. signed_key key index (at k) ++ (joined (λ i. signed_key key index (more i k)) count ++ last_at key index message (more count k)))
    ∙ sym (append_assoc (f 0) later (last_at key index message (level + suc count)))
    ∙ ap (λ l. l ++ last_at key index message (level + suc count)) (sym (first_part f count))

-- the signature as it is written, from the top level down
pub signature_is : (key : HssSecret) (index : ℕ) (message : List ℕ) → hss_signature key index message ≡ to_be_bytes w32 (key.levels - 1) ++ signed_below (key.levels - 1) key index 0 message
unfolding hss_signature
signature_is key index message =
    let last : ℕ = key.levels - 1 in
    let from : (i : ℕ) → 0 + i ≡ i = λ i. omega arith in
    append_assoc (to_be_bytes w32 last) (joined (signed_key key index) last) (last_at key index message last)
    ∙ ap (λ l. to_be_bytes w32 last ++ l) (sym (below_is last key index 0 message
    ∙ (λ k. joined (λ i. signed_key key index (from i k)) last ++ last_at key index message (from last k))))

pub few_levels : (key : HssSecret) → IsKey key → key.levels ≤ 4
few_levels key known = elim known.height [
  | inl e ↦ let most = subst (λ n. height_of n * key.levels ≤ 20) e known.most in omega arith
  | inr e ↦ let most = subst (λ n. height_of n * key.levels ≤ 20) e known.most in omega arith
]

pub top_is : (key : HssSecret) (index : ℕ) → index < signatures_of key → tree_at key index 0 ≡ tree_numbered key 0 0
top_is key index h =
    let all : key.levels - 0 ≡ key.levels = omega arith in
    ap (λ n. tree_numbered key 0 (index / 2 ^ (height_of key.lms_type * n))) all
    ∙ ap (tree_numbered key 0) (div-eq_of_lt h)

written_verifies : (key : HssSecret) (index : ℕ) (message : List ℕ) → IsKey key → index < signatures_of key → hss_verifies (hss_public key) message (to_be_bytes w32 (key.levels - 1) ++ signed_below (key.levels - 1) key index 0 message) ≡ true
unfolding hss_verifies hss_public
written_verifies key index message known h =
    let last : ℕ = key.levels - 1 in
    let rest : List ℕ = signed_below last key index 0 message in
    let s : List ℕ = to_be_bytes w32 last ++ rest in
    let few = few_levels key known in
    let number : u32_at 0 s ≡ last = from_be_bytes-to_be_bytes_4 last (omega arith) in
    let levels : levels_of (hss_public key) ≡ key.levels = from_be_bytes-to_be_bytes_4 key.levels (omega arith) in
    let long : 4 ≤ length s = omega arith in
    let all : u32_at 0 s + 1 ≡ levels_of (hss_public key) = omega (arith, number, levels, known.some) in
    let top : lms_public (tree_numbered key 0 0) ≡ lms_public (tree_at key index 0) = ap lms_public (sym (top_is key index h)) in
    and_from _ _ (and_from _ _ (le-leb 4 (length s) long) (eq-eqb _ _ all)) ((λ k. levels_verify (number k) (top k) message rest) ∙ levels_sign last key index 0 message known)

-- what a key signs verifies under its public key (RFC 8554, 6.2, 6.3)
pub signs : (key : HssSecret) (index : ℕ) (message : List ℕ) → IsKey key → index < signatures_of key → Verifies (hss_public key) message (hss_signature key index message)
signs key index message known h =
    ap (hss_verifies (hss_public key) message) (signature_is key index message) ∙ written_verifies key index message known h

-- ---- the steps of the signer

pub leaf_fits : (key own : HssSecret) (tree : TreeSecret) (index level leaf : ℕ) → own ≡ key → tree ≡ tree_at key index level → leaf < 2 ^ height_of own.lms_type → leaf < leaves_of tree
leaf_fits key own tree index level leaf same is h =
    let all : 2 ^ height_of own.lms_type ≡ leaves_of tree =
    ap (λ (k : HssSecret). 2 ^ height_of k.lms_type) same
    ∙ sym (ap leaves_of is ∙ same_leaves key level (number_at key index level)) in
    subst (λ n. leaf < n) all h

pub last_level : (key own : HssSecret) (tree : TreeSecret) (index level leaf : ℕ) (message : List ℕ) → own ≡ key → tree ≡ tree_at key index level → leaf ≡ leaf_at own index level → level + 1 ≡ own.levels → lms_signature tree leaf message ≡ signed_below (key.levels - 1 - level) key index level message
unfolding signed_below
last_level key own tree index level leaf message same is at h =
    let levels : own.levels ≡ key.levels = ap (λ (k : HssSecret). k.levels) same in
    let none : zero ≡ key.levels - 1 - level = omega arith in
    (λ k. lms_signature (is k) (at k) message)
    ∙ ap (λ (k : HssSecret). lms_signature (tree_at key index level) (leaf_at k index level) message) same
    ∙ ap (λ n. signed_below n key index level message) none

pub next_level : (key own : HssSecret) (tree : TreeSecret) (index level leaf : ℕ) (next message : List ℕ) → own ≡ key → tree ≡ tree_at key index level → leaf ≡ leaf_at own index level → next ≡ lms_public (tree_at key index (level + 1)) → level + 1 < key.levels → lms_signature tree leaf next ++ next ++ signed_below (key.levels - 1 - (level + 1)) key index (level + 1) message ≡ signed_below (key.levels - 1 - level) key index level message
unfolding signed_below signed_key
next_level key own tree index level leaf next message same is at signed h =
    let count : ℕ = key.levels - 1 - (level + 1) in
    let more : suc count ≡ key.levels - 1 - level = omega arith in
    let rest : List ℕ = signed_below count key index (level + 1) message in
    (λ k. lms_signature (is k) (at k) (signed k) ++ signed k ++ rest)
    ∙ ap (λ (k : HssSecret). lms_signature (tree_at key index level) (leaf_at k index level) (lms_public (tree_at key index (level + 1))) ++ lms_public (tree_at key index (level + 1)) ++ rest) same
    ∙ ap (λ n. signed_below n key index level message) more

-- the bytes of the public key have nothing wrong with them (RFC 8554, 6.1)
pub no_fault : (key : HssSecret) → IsKey key → key_fault (hss_public key) ≡ None
unfolding hss_public
no_fault key known =
    let top : TreeSecret = tree_numbered key 0 0 in
    let kt : IsTree top = known_tree key 0 0 known in
    let few = few_levels key known in
    let levels : levels_of (hss_public key) ≡ key.levels = from_be_bytes-to_be_bytes_4 key.levels (omega arith) in
    let long : length (hss_public key) ≡ 60 = omega (arith, length-lms_public top kt) in
    let shape : has_key_shape (hss_public key) ≡ true =
    and_from _ _ (eq-eqb (length (hss_public key)) 60 long) (types_known top kt) in
    let some : has_levels (hss_public key) ≡ true =
    and_from _ _ (lt-ltb 0 (levels_of (hss_public key)) (omega (arith, levels, known.some))) (lt-ltb (levels_of (hss_public key)) 9 (omega (arith, levels))) in
    (λ k. if not (shape k) then Some KeyShape else (if not (some k) then Some Levels else None))

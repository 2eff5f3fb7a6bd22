-- How long the spelling of an archive's time-stamps is.
use Rattle.std.proofs.Common.{◌≡◌, ℕ, suc, ◌+◌, ◌*◌, ◌<◌, ◌≤◌, Bool, true, false, List, [], ◌∷◌, ◌++◌, length, map, Some, refl, ap, ◌∙◌, arith}
use Rattle.std.specs.Prelude.{if◌then◌else◌}
use Rattle.std.specs.List.{AllByRecursion, flat_map}
use Rattle.std.specs.Ordering.{is_le}
use Rattle.std.proofs.lemmas.List.{length-append}
use Rattle.std.proofs.lemmas.List.Concat.{flat_map-append}
use Rattle.der_values.specs.Value.{value}
use Rattle.der_values.specs.Algorithm.{name_contents}
use Rattle.der_values.proofs.Values.{value_length}
use Rattle.hash_kit.specs.declared.algorithm.HashAlg.{HashAlg}
use Rattle.hash_kit.specs.declared.algorithm.HashAlg.TheVariants.{Sha256, Sha384, Sha512}
use Rattle.hash_kit.specs.Algorithm.{oid_of}
use Rattle.hash_kit.specs.Digest.{digest_of}
use Rattle.hash_kit.specs.Node.{bytes_cmp, with_value, ascending}
use Rattle.hash_kit.proofs.Sizes.{length-digest_of}
use Rattle.hash_tree.specs.Tree.{tree_path}
use Rattle.evidence_syntax.specs.Stamps.{Stamp}
use Rattle.evidence_syntax.specs.Text.{list_text, tree_text, algorithm_text, stamp_contents, stamp_text, chain_text}
use Rattle.evidence_syntax.specs.Valid.{IsHash}
use Rattle.evidence_syntax.specs.DocumentValue.{document_value, values_after}
use Rattle.tree_renewal.specs.Lists.{only, lists_of}
use Rattle.archive_chain.specs.Sequence.{name_of}
use Rattle.archive_chain.specs.declared.time_stamp.TimeStamp.{TimeStamp}
use Rattle.archive_chain.specs.InsideTable.{IsShort}
use Rattle.archive_chain.specs.InsideReadable.{stamp_made}
use Rattle.archive_chain.proofs.Paths.{path_few}

-- ---- ascending lists

pub chosen : {A : Type 0} (P : A → Type 0) (b : Bool) (x y : A) → P x → P y → P (if b then x else y)
chosen P true x y p q = p
chosen P false x y p q = q

with_value_each : (P : List ℕ → Type 0) (v : List ℕ) (l : List (List ℕ)) → P v → AllByRecursion P l → AllByRecursion P (with_value v l)
with_value_each P v [] p all = (p, tt)
with_value_each P v (n ∷ l) p all =
    chosen (AllByRecursion P) (is_le (bytes_cmp v n)) (v ∷ n ∷ l) (n ∷ with_value v l) (p, all) (all.0, with_value_each P v l p all.1)

pub ascending_each : (P : List ℕ → Type 0) (l : List (List ℕ)) → AllByRecursion P l → AllByRecursion P (ascending l)
ascending_each P [] all = tt
ascending_each P (v ∷ l) all = with_value_each P v (ascending l) all.0 (ascending_each P l all.1)

with_value_long : (v : List ℕ) (l : List (List ℕ)) → length (with_value v l) ≡ suc (length l)
with_value_long v [] = refl
with_value_long v (n ∷ l) =
    chosen (λ (x : List (List ℕ)). length x ≡ suc (suc (length l))) (is_le (bytes_cmp v n)) (v ∷ n ∷ l) (n ∷ with_value v l) refl (ap suc (with_value_long v l))

pub ascending_long : (l : List (List ℕ)) → length (ascending l) ≡ length l
ascending_long [] = refl
ascending_long (v ∷ l) = with_value_long v (ascending l) ∙ ap suc (ascending_long l)

-- ---- the lists

values_size : (l : List (List ℕ)) → AllByRecursion IsHash l → length (flat_map (λ v. value 4 v) l) ≤ 70 * length l
values_size [] all = omega arith
values_size (v ∷ l) all =
    omega (arith, length-append (value 4 v) (flat_map (λ v. value 4 v) l), value_length 4 v, all.0.1, values_size l all.1)

list_size : (l : List (List ℕ)) → AllByRecursion IsHash l → length (list_text l) ≤ 70 * length l + 6
list_size l all = omega (arith, value_length 48 (flat_map (λ v. value 4 v) l), values_size l all)

path_size : (path : List (List ℕ)) → AllByRecursion IsHash path → length (flat_map list_text (map only path)) ≤ 76 * length path
path_size [] all = omega arith
path_size (v ∷ path) all =
    omega (arith, length-append (list_text (only v)) (flat_map list_text (map only path)), list_size (only v) (all.0, tt), path_size path all.1)

with_path : (first path : List (List ℕ)) → length first ≤ 64 → AllByRecursion IsHash first → length path ≤ 32 → AllByRecursion IsHash path
    → length (tree_text (Some (ascending first ∷ map only path))) ≤ 6990
with_path first path most all few hashes =
    let lists : List (List (List ℕ)) = ascending first ∷ map only path in
    omega (
      arith,
      value_length 162 (flat_map list_text lists),
      length-append (list_text (ascending first)) (flat_map list_text (map only path)),
      list_size (ascending first) (ascending_each IsHash first all),
      ascending_long first,
      most,
      path_size path hashes,
      few,
    )

pub tree_size : (values path : List (List ℕ)) → 0 < length values → length values ≤ 64 → AllByRecursion IsHash values → length path ≤ 32 → AllByRecursion IsHash path
    → length (tree_text (lists_of values path)) ≤ 6990
tree_size [] path some most all few hashes = absurd (omega (arith, some))
tree_size (v ∷ []) [] some most all few hashes = omega arith
tree_size (v ∷ []) (o ∷ path) some most all few hashes = with_path (v ∷ o ∷ []) path (omega arith) (all.0, (hashes.0, tt)) (omega (arith, few)) hashes.1
tree_size (v ∷ w ∷ values) path some most all few hashes = with_path (v ∷ w ∷ values) path most all few hashes

-- ---- the time-stamp

oid_size : (alg : HashAlg) → length (oid_of alg) ≡ 9
oid_size Sha256 = refl
oid_size Sha384 = refl
oid_size Sha512 = refl

pub name_size : (alg : HashAlg) → length (name_contents (name_of alg)) ≤ 15
name_size alg = omega (arith, length-append (value 6 (oid_of alg)) [], value_length 6 (oid_of alg), oid_size alg)

pub stamp_size : (t : TimeStamp) (values : List (List ℕ)) (place : ℕ) → IsShort t → 0 < length values → length values ≤ 64 → AllByRecursion IsHash values → AllByRecursion IsHash (tree_path t.tree.alg t.tree.leaves place)
    → length (stamp_text (stamp_made t values place)) ≤ 72600
stamp_size t values place is some most all hashes =
    let path = tree_path t.tree.alg t.tree.leaves place in
    let leaves = is.few_leaves in
    let s = stamp_made t values place in
    let algorithm : List ℕ = algorithm_text (Some (name_of t.alg)) in
    let lists : List ℕ = tree_text (lists_of values path) in
    let whole : length (stamp_text s) ≤ length (stamp_contents s) + 6 = value_length 48 (stamp_contents s) in
    let front : length (stamp_contents s) ≡ length ((algorithm ++ []) ++ lists) + length t.token = length-append ((algorithm ++ []) ++ lists) t.token in
    let back : length ((algorithm ++ []) ++ lists) ≡ length (algorithm ++ []) + length lists = length-append (algorithm ++ []) lists in
    let none : length (algorithm ++ []) ≡ length algorithm + 0 = length-append algorithm [] in
    let name : length algorithm ≤ length (name_contents (name_of t.alg)) + 6 = value_length 160 (name_contents (name_of t.alg)) in
    let lists_short : length lists ≤ 6990 = tree_size values path some most all (path_few t.tree.alg t.tree.leaves place 32 (omega (arith, leaves))) hashes in
    omega (arith, whole, front, back, none, name, name_size t.alg, lists_short, is.short_token)

-- ---- values

pub digest_hash : (alg : HashAlg) (m : List ℕ) → IsHash (digest_of alg m)
digest_hash Sha256 m = let e = length-digest_of Sha256 m in (omega (arith, e), omega (arith, e))
digest_hash Sha384 m = let e = length-digest_of Sha384 m in (omega (arith, e), omega (arith, e))
digest_hash Sha512 m = let e = length-digest_of Sha512 m in (omega (arith, e), omega (arith, e))

value_hash : (alg : HashAlg) (older : List (List Stamp)) (d : List ℕ) → IsHash (document_value alg older d)
value_hash alg [] d = digest_hash alg d
value_hash alg (chain ∷ older) d = digest_hash alg _

pub values_hash : (alg : HashAlg) (older : List (List Stamp)) (documents : List (List ℕ)) → AllByRecursion IsHash (values_after alg older documents)
values_hash alg older [] = tt
values_hash alg older (d ∷ documents) = (value_hash alg older d, values_hash alg older documents)

pub values_long : (alg : HashAlg) (older : List (List Stamp)) (documents : List (List ℕ)) → length (values_after alg older documents) ≡ length documents
values_long alg older [] = refl
values_long alg older (d ∷ documents) = ap suc (values_long alg older documents)

-- ---- chains

-- so many time-stamps
pub record AreSized (stamps : List Stamp) (count : ℕ) : Type 0 where
  pub many : length stamps ≡ count
  pub size : length (flat_map stamp_text stamps) ≤ 72600 * count

pub one_sized : (s : Stamp) → length (stamp_text s) ≤ 72600 → AreSized (s ∷ []) 1
one_sized s short = let one = length-append (stamp_text s) [] in record { many = refl; size = omega (arith, one, short) }

pub more_sized : (made more : List Stamp) (s : Stamp) (count : ℕ) → AreSized made count → more ≡ made ++ s ∷ [] → length (stamp_text s) ≤ 72600 → AreSized more (count + 1)
more_sized made more s count sized is short =
    let many = sized.many in
    let size = sized.size in
    let longer = ap (λ (l : List Stamp). length l) is ∙ length-append made (s ∷ []) in
    let whole = ap (λ (l : List Stamp). length (flat_map stamp_text l)) is ∙ ap (λ (l : List ℕ). length l) (flat_map-append stamp_text made (s ∷ [])) in
    let parts = length-append (flat_map stamp_text made) (flat_map stamp_text (s ∷ [])) in
    let one = length-append (stamp_text s) [] in
    record { many = omega (arith, many, longer); size = omega (arith, size, whole, parts, one, short) }

pub chain_size : (stamps : List Stamp) (count : ℕ) → AreSized stamps (count + 1) → length (chain_text stamps) ≤ 72606 * (count + 1)
chain_size stamps count sized =
    let size = sized.size in
    let whole : length (chain_text stamps) ≤ length (flat_map stamp_text stamps) + 6 = value_length 48 (flat_map stamp_text stamps) in
    omega (arith, size, whole)

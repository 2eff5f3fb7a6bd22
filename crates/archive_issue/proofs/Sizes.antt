-- The archive's time-stamps are such as a record may have, and short.
use Rattle.std.proofs.Common.{◌≡◌, ℕ, zero, suc, ◌+◌, ◌<◌, ◌≤◌, List, [], ◌∷◌, ◌++◌, length, map, Option, Some, None, refl, arith}
use Rattle.std.specs.Prelude.{◌≢◌, ◌^◌, slice_index_or}
use Rattle.std.specs.List.{AllByRecursion}
use Rattle.std.proofs.lemmas.List.{length-append}
use Rattle.der_values.specs.Typed.{IsTagged}
use Rattle.der_values.proofs.Values.{value_length}
use Rattle.hash_kit.specs.declared.algorithm.HashAlg.{HashAlg}
use Rattle.hash_kit.specs.declared.algorithm.HashAlg.TheVariants.{Sha256, Sha384, Sha512}
use Rattle.hash_kit.specs.Node.{ascending}
use Rattle.evidence_syntax.specs.Stamps.{Stamp}
use Rattle.evidence_syntax.specs.Text.{tree_text, algorithm_text, stamp_contents, stamp_text}
use Rattle.evidence_syntax.specs.Valid.{IsHash, IsList, IsTree, IsStamp}
use Rattle.tree_renewal.specs.Lists.{only, lists_of}
use Rattle.archive_chain.specs.Kept.{Cover}
use Rattle.archive_chain.specs.Sequence.{name_of, Trees, path_of, stamp_of}
use Rattle.der_values.specs.Algorithm.{name_contents, IsName}
use Rattle.archive_chain.proofs.Paths.{path_few}
use Rattle.archive_chain.proofs.Sizes.{ascending_each, ascending_long, tree_size, name_size}
use Rattle.archive_issue.proofs.Paths.{path_hashes}

-- ---- the lists

filled : (l : List (List ℕ)) → 0 < length l → l ≢ []
filled [] some = absurd (omega (arith, some))
filled (v ∷ l) some = λ e. cc

list_is : (l : List (List ℕ)) → 0 < length l → AllByRecursion IsHash l → IsList (ascending l)
list_is l some all = record { some = filled (ascending l) (omega (arith, some, ascending_long l)); each = ascending_each IsHash l all }

path_is : (path : List (List ℕ)) → AllByRecursion IsHash path → AllByRecursion IsList (map only path)
path_is [] all = tt
path_is (v ∷ path) all = (record { some = λ e. cc; each = (all.0, tt) }, path_is path all.1)

abbrev pub IsSomeTree : Option (List (List (List ℕ))) → Type 0
IsSomeTree None = Unit {0}
IsSomeTree (Some lists) = IsTree lists

with_path : (first path : List (List ℕ)) → 0 < length first → AllByRecursion IsHash first → AllByRecursion IsHash path → IsTree (ascending first ∷ map only path)
with_path first path some all hashes = record { some = λ e. cc; each = (list_is first some all, path_is path hashes) }

tree_is : (values path : List (List ℕ)) → 0 < length values → AllByRecursion IsHash values → AllByRecursion IsHash path → IsSomeTree (lists_of values path)
tree_is [] path some all hashes = absurd (omega (arith, some))
tree_is (v ∷ []) [] some all hashes = tt
tree_is (v ∷ []) (o ∷ path) some all hashes = with_path (v ∷ o ∷ []) path (omega arith) (all.0, (hashes.0, tt)) hashes.1
tree_is (v ∷ w ∷ values) path some all hashes = with_path (v ∷ w ∷ values) path some all hashes

-- ---- the time-stamp

pub name_is : (alg : HashAlg) → IsName (name_of alg)
name_is Sha256 = record { oid = record { some = λ e. cc; whole = refl }; params = tt }
name_is Sha384 = record { oid = record { some = λ e. cc; whole = refl }; params = tt }
name_is Sha512 = record { oid = record { some = λ e. cc; whole = refl }; params = tt }

-- the leaves of a tree
pub record AreLeaves (leaves : List (List ℕ)) : Type 0 where
  pub hashes : AllByRecursion IsHash leaves
  pub few : length leaves ≤ 2 ^ 32

-- the token of a cover
pub record IsGoodToken (c : Cover) : Type 0 where
  pub tagged : IsTagged 48 c.token
  pub short : length c.token ≤ 65536

pub record IsGoodStamp (s : Stamp) : Type 0 where
  pub is_stamp : IsStamp s
  pub short : length (stamp_text s) ≤ 72600

leaves_at : (trees : Trees) (entry : ℕ) → AllByRecursion AreLeaves trees → AreLeaves (slice_index_or trees entry [])
leaves_at [] entry all = record { hashes = tt; few = omega arith }
leaves_at (leaves ∷ trees) zero all = all.0
leaves_at (leaves ∷ trees) (suc entry) all = leaves_at trees entry all.1

pub good_stamp : (trees : Trees) (c : Cover) (values : List (List ℕ)) → AllByRecursion AreLeaves trees → IsGoodToken c
    → 0 < length values → length values ≤ 64 → AllByRecursion IsHash values → IsGoodStamp (stamp_of trees c values)
good_stamp trees c values good token some most all =
    let leaves = slice_index_or trees c.entry [] in
    let are = leaves_at trees c.entry good in
    let path = path_of trees c in
    let hashes = path_hashes c.alg leaves c.place are.hashes in
    let s = stamp_of trees c values in
    let algorithm : List ℕ = algorithm_text (Some (name_of c.alg)) in
    let lists : List ℕ = tree_text (lists_of values path) in
    let whole : length (stamp_text s) ≤ length (stamp_contents s) + 6 = value_length 48 (stamp_contents s) in
    let front : length (stamp_contents s) ≡ length ((algorithm ++ []) ++ lists) + length c.token = length-append ((algorithm ++ []) ++ lists) c.token in
    let back : length ((algorithm ++ []) ++ lists) ≡ length (algorithm ++ []) + length lists = length-append (algorithm ++ []) lists in
    let none : length (algorithm ++ []) ≡ length algorithm + 0 = length-append algorithm [] in
    let name : length algorithm ≤ length (name_contents (name_of c.alg)) + 6 = value_length 160 (name_contents (name_of c.alg)) in
    let lists_short : length lists ≤ 6990 = tree_size values path some most all (path_few c.alg leaves c.place 32 are.few) hashes in
    record {
      is_stamp = stamp_is (lists_of values path) (tree_is values path some all hashes);
      short = omega (arith, whole, front, back, none, name, name_size c.alg, lists_short, token.short);
    }
  where
    stamp_is : (tree : Option (List (List (List ℕ)))) → IsSomeTree tree → IsStamp (record { algorithm = Some (name_of c.alg); attributes = None; lists = tree; token = c.token })
    stamp_is None is = record { algorithm = name_is c.alg; attributes = tt; lists = tt; token = token.tagged }
    stamp_is (Some lists) is = record { algorithm = name_is c.alg; attributes = tt; lists = is; token = token.tagged }

-- The leaves of an entry's tree, over documents that were read back one group after another.
use Rattle.std.proofs.Common.{◌≡◌, ℕ, zero, suc, ◌+◌, ◌<◌, ◌≤◌, Bool, true, false, IsTrue, List, [], ◌∷◌, ◌++◌, map, length, take, drop, get_or, Some, refl, sym, ap, ◌∙◌, subst, arith}
use Rattle.std.specs.Prelude.{slice_get, slice_index_or, cond, if◌then◌else◌}
use Rattle.std.specs.List.{AllByRecursion}
use Rattle.std.proofs.lemmas.List.{take_more}
use Rattle.std.proofs.lemmas.List.Recursion.{is_count_by}
use Rattle.hash_kit.specs.declared.algorithm.HashAlg.{HashAlg}
use Rattle.tree_renewal.specs.Leaf.{leaf_of}
use Rattle.archive_chain.specs.Kept.{Cover, Kept, groups_of, is_in, count_in, ids_in}
use Rattle.archive_chain.specs.Sequence.{Trees, sequence_of}
use Rattle.archive_chain.specs.History.{leaves_in}
use Rattle.archive_store.specs.declared.row.Row.{Row}
use Rattle.archive_store.specs.Told.{group_told}
use Rattle.archive_store.specs.InsideRows.{homes_from, AreReadable}
use Rattle.archive_store.specs.InsideReplay.{documents_in}
use Rattle.archive_store.proofs.Homes.{length-homes}
use Rattle.archive_store.proofs.ReadBack.{map_push, all_get}

-- where the disk tells its bytes, a group is told as it is
pub told_group : (tells : Bool) (g : List (List ℕ)) → IsTrue tells → group_told tells g ≡ g
told_group true g known = refl
told_group false g known = absurd (cc known)

get_drop : {A : Type 0} (xs : List A) (n k : ℕ) → slice_get (drop n xs) k ≡ slice_get xs (n + k)
get_drop xs zero k = ap (slice_get xs) (omega arith)
get_drop [] (suc n) k = refl
get_drop (x ∷ xs) (suc n) k = get_drop xs n k ∙ ap (slice_get (x ∷ xs)) (let next : suc (n + k) ≡ suc n + k = omega arith in next)

take_next : {A : Type 0} (xs : List A) (n : ℕ) (x : A) → slice_get xs n ≡ Some x → take (suc n) xs ≡ take n xs ++ x ∷ []
take_next [] n x is = absurd (cc is)
take_next {A} (y ∷ xs) zero x is = ap (λ (z : A). z ∷ []) (let same : y ≡ x = cc is in same)
take_next {A} (y ∷ xs) (suc n) x is = ap (λ (l : List A). y ∷ l) (take_next xs n x is)

-- one leaf of a seal more
pub seal_more : (f : List (List ℕ) → List ℕ) (documents : List (List (List ℕ))) (first k : ℕ) (leaves more : List (List ℕ)) (g : List (List ℕ)) (leaf : List ℕ)
    → leaves ≡ map f (take k (drop first documents)) → slice_get documents (first + k) ≡ Some g → leaf ≡ f g → more ≡ leaves ++ leaf ∷ []
    → more ≡ map f (take (k + 1) (drop first documents))
seal_more f documents first k leaves more g leaf are is leaf_is more_are =
    let front : List (List (List ℕ)) = take k (drop first documents) in
    let next : take (k + 1) (drop first documents) ≡ front ++ g ∷ [] =
    ap (λ (n : ℕ). take n (drop first documents)) (let one : k + 1 ≡ suc k = omega arith in one) ∙ take_next (drop first documents) k g (get_drop documents first k ∙ is) in
    more_are ∙ ap (λ (l : List (List ℕ)). l ++ leaf ∷ []) are ∙ ap (λ (x : List ℕ). map f front ++ x ∷ []) leaf_is ∙ sym (map_push f front g) ∙ ap (map f) (sym next)

-- ---- new trees

-- the leaf of a group in a new tree
abbrev pub leaf_at : Trees → HashAlg → List (List Cover) → List (List (List ℕ)) → ℕ → List ℕ
leaf_at trees alg sealed documents id =
    leaf_of alg (sequence_of trees (slice_index_or documents id []) (slice_index_or sealed id [])) (slice_index_or documents id [])

-- one leaf more
pub tree_more : (f : ℕ → List ℕ) (ids : List ℕ) (k id : ℕ) (leaves more : List (List ℕ)) (leaf : List ℕ) → k < length ids → id ≡ get_or ids k id
    → leaves ≡ map f (take k ids) → leaf ≡ f id → more ≡ leaves ++ leaf ∷ [] → more ≡ map f (take (k + 1) ids)
tree_more f ids k id leaves more leaf lt is are leaf_is more_are =
    let next : take (k + 1) ids ≡ take k ids ++ id ∷ [] = take_more ids k id lt ∙ ap (λ (i : ℕ). take k ids ++ i ∷ []) (sym is) in
    more_are ∙ ap (λ (l : List (List ℕ)). l ++ leaf ∷ []) are ∙ ap (λ (x : List ℕ). map f (take k ids) ++ x ∷ []) leaf_is ∙ sym (map_push f (take k ids) id) ∙ ap (map f) (sym next)

by_test : {P : Type 0} (b : Bool) → (b ≡ true → P) → (b ≡ false → P) → P
by_test true yes_ no_ = yes_ refl
by_test false yes_ no_ = no_ refl

module _ (trees : Trees) (alg : HashAlg) (cohorts : List ℕ) where
  -- the leaves of the groups of these cohorts, by their numbers
  leaves_by : (f : ℕ → List ℕ) (base : ℕ) (groups : List (List Cover)) (documents : List (List (List ℕ))) → length groups ≤ length documents
      → ((i : ℕ) → i < length groups → f (base + i) ≡ leaf_at trees alg groups documents i) → map f (ids_in cohorts base groups) ≡ leaves_in trees alg cohorts groups documents
  leaves_by f base [] documents le are = refl
  leaves_by f base (covers ∷ groups) [] le are = absurd (omega (arith, le))
  leaves_by f base (covers ∷ groups) (d ∷ documents) le are =
      let leaf : List ℕ = leaf_of alg (sequence_of trees d covers) d in
      let first : f base ≡ leaf = ap f (let same : base ≡ base + 0 = omega arith in same) ∙ are 0 (omega arith) in
      let rest : map f (ids_in cohorts (base + 1) groups) ≡ leaves_in trees alg cohorts groups documents =
      leaves_by f (base + 1) groups documents (omega (arith, le)) (λ i lt. ap f (let same : base + 1 + i ≡ base + suc i = omega arith in same) ∙ are (suc i) (omega (arith, lt))) in
      let both : Bool → Type 0 = λ b. map f (if b then base ∷ ids_in cohorts (base + 1) groups else ids_in cohorts (base + 1) groups)
      ≡ (if b then leaf ∷ leaves_in trees alg cohorts groups documents else leaves_in trees alg cohorts groups documents) in
      by_test (is_in cohorts covers)
      (λ e. subst both (sym e) (ap (λ (x : List ℕ). x ∷ map f (ids_in cohorts (base + 1) groups)) first ∙ ap (λ (l : List (List ℕ)). leaf ∷ l) rest))
      (λ e. subst both (sym e) rest)

  pub leaves_are : (sealed : List (List Cover)) (documents : List (List (List ℕ))) → length sealed ≤ length documents
      → map (leaf_at trees alg sealed documents) (ids_in cohorts 0 sealed) ≡ leaves_in trees alg cohorts sealed documents
  leaves_are sealed documents le =
      leaves_by (leaf_at trees alg sealed documents) 0 sealed documents le (λ i lt. ap (leaf_at trees alg sealed documents) (omega arith))

-- there are as many as the entry has leaves
length_from : (cohorts : List ℕ) (a b : ℕ) (groups : List (List Cover)) → length (ids_in cohorts a groups) ≡ length (ids_in cohorts b groups)
length_from cohorts a b [] = refl
length_from cohorts a b (covers ∷ groups) =
    let rest = length_from cohorts (a + 1) (b + 1) groups in
    let Same : Bool → Type 0 = λ t. length (if t then a ∷ ids_in cohorts (a + 1) groups else ids_in cohorts (a + 1) groups)
    ≡ length (if t then b ∷ ids_in cohorts (b + 1) groups else ids_in cohorts (b + 1) groups) in
    by_test (is_in cohorts covers) (λ e. subst Same (sym e) (ap suc rest)) (λ e. subst Same (sym e) rest)

pub length-ids : (cohorts : List ℕ) (groups : List (List Cover)) → length (ids_in cohorts 0 groups) ≡ count_in cohorts groups
length-ids cohorts groups = is_count_by (λ (gs : List (List Cover)). length (ids_in cohorts 0 gs)) (is_in cohorts) refl one_group groups where
  one_group : (covers : List Cover) (gs : List (List Cover)) → length (ids_in cohorts 0 (covers ∷ gs)) ≡ cond (is_in cohorts covers) (1 + length (ids_in cohorts 0 gs)) (length (ids_in cohorts 0 gs))
  one_group covers gs =
      let rest : length (ids_in cohorts 1 gs) ≡ length (ids_in cohorts 0 gs) = length_from cohorts 1 0 gs in
      let Same : Bool → Type 0 = λ t. length (if t then 0 ∷ ids_in cohorts 1 gs else ids_in cohorts 1 gs) ≡ cond t (1 + length (ids_in cohorts 0 gs)) (length (ids_in cohorts 0 gs)) in
      by_test (is_in cohorts covers) (λ e. subst Same (sym e) (omega (arith, rest))) (λ e. subst Same (sym e) rest)

-- and each is the number of a group
pub ids_below : (cohorts : List ℕ) (base : ℕ) (groups : List (List Cover)) → AllByRecursion (λ id. id < base + length groups) (ids_in cohorts base groups)
ids_below cohorts base [] = tt
ids_below cohorts base (covers ∷ groups) =
    let P : ℕ → Type 0 = λ id. id < base + length (covers ∷ groups) in
    let rest : AllByRecursion P (ids_in cohorts (base + 1) groups) = subst (λ (n : ℕ). AllByRecursion (λ id. id < n) (ids_in cohorts (base + 1) groups)) (omega arith) (ids_below cohorts (base + 1) groups) in
    by_test (is_in cohorts covers)
    (λ e. subst (λ (b : Bool). AllByRecursion P (if b then base ∷ ids_in cohorts (base + 1) groups else ids_in cohorts (base + 1) groups)) (sym e) (omega arith, rest))
    (λ e. subst (λ (b : Bool). AllByRecursion P (if b then base ∷ ids_in cohorts (base + 1) groups else ids_in cohorts (base + 1) groups)) (sym e) rest)

pub id_below : (cohorts : List ℕ) (sealed : List (List Cover)) (ids : List ℕ) (k id : ℕ) → ids ≡ ids_in cohorts 0 sealed → k < length ids → id ≡ get_or ids k id → id < length sealed
id_below cohorts sealed ids k id are lt is =
    let each : AllByRecursion (λ i. i < 0 + length sealed) ids = subst (AllByRecursion (λ i. i < 0 + length sealed)) (sym are) (ids_below cohorts 0 sealed) in
    let below : id < 0 + length sealed = all_get (λ i. i < 0 + length sealed) ids k id each lt is in
    omega (arith, below)

-- ---- one group that was read back

-- where the disk tells its bytes, it is that of the documents
pub read_there : (tells : Bool) (rows : List Row) (payloads same : List (List ℕ)) (id : ℕ) (g : List (List ℕ)) → IsTrue tells → same ≡ payloads
    → slice_get (documents_in tells rows same) id ≡ Some (group_told tells g) → slice_get (documents_in tells rows payloads) id ≡ Some g
read_there tells rows payloads same id g known are is =
    ap (λ (ps : List (List ℕ)). slice_get (documents_in tells rows ps) id) (sym are) ∙ is ∙ ap (λ (d : List (List ℕ)). Some d) (told_group tells g known)

get_there : (xs : List (List (List ℕ))) (n : ℕ) (x : List (List ℕ)) → slice_get xs n ≡ Some x → slice_index_or xs n [] ≡ x
get_there [] n x is = absurd (cc is)
get_there (y ∷ xs) zero x is = cc is
get_there (y ∷ xs) (suc n) x is = get_there xs n x is

pub leaf_there : (trees : Trees) (alg : HashAlg) (sealed : List (List Cover)) (documents : List (List (List ℕ))) (id : ℕ) (g : List (List ℕ)) (leaf : List ℕ)
    → slice_get documents id ≡ Some g → leaf ≡ leaf_of alg (sequence_of trees g (slice_index_or sealed id [])) g → leaf ≡ leaf_at trees alg sealed documents id
leaf_there trees alg sealed documents id g leaf there is =
    is ∙ ap (λ (d : List (List ℕ)). leaf_of alg (sequence_of trees d (slice_index_or sealed id [])) d) (sym (get_there documents id g there))

-- ---- the leaves so far, with one more

module _ (tells : Bool) (rows : List Row) (payloads same : List (List ℕ)) (are_same : IsTrue tells → same ≡ payloads) where
  abbrev documents : List (List (List ℕ))
  documents = documents_in tells rows payloads

  pub seal_step : (f : List (List ℕ) → List ℕ) (first k id : ℕ) (leaves more : List (List ℕ)) (g : List (List ℕ)) (leaf : List ℕ)
      → (IsTrue tells → leaves ≡ map f (take k (drop first documents))) → id ≡ first + k → slice_get (documents_in tells rows same) id ≡ Some (group_told tells g)
      → leaf ≡ f g → more ≡ leaves ++ leaf ∷ [] → IsTrue tells → more ≡ map f (take (k + 1) (drop first documents))
  seal_step f first k id leaves more g leaf are id_is read leaf_is more_are known =
      let there : slice_get documents (first + k) ≡ Some g = ap (slice_get documents) (sym id_is) ∙ read_there tells rows payloads same id g known (are_same known) read in
      seal_more f documents first k leaves more g leaf (are known) there leaf_is more_are

  pub tree_step : (trees : Trees) (alg : HashAlg) (sealed : List (List Cover)) (ids : List ℕ) (k id : ℕ) (leaves more : List (List ℕ)) (g : List (List ℕ)) (leaf : List ℕ)
      → k < length ids → id ≡ get_or ids k id → (IsTrue tells → leaves ≡ map (leaf_at trees alg sealed documents) (take k ids))
      → slice_get (documents_in tells rows same) id ≡ Some (group_told tells g) → leaf ≡ leaf_of alg (sequence_of trees g (slice_index_or sealed id [])) g
      → more ≡ leaves ++ leaf ∷ [] → IsTrue tells → more ≡ map (leaf_at trees alg sealed documents) (take (k + 1) ids)
  tree_step trees alg sealed ids k id leaves more g leaf lt is are read leaf_is more_are known =
      let there : slice_get documents id ≡ Some g = read_there tells rows payloads same id g known (are_same known) read in
      tree_more (leaf_at trees alg sealed documents) ids k id leaves more leaf lt is (are known) (leaf_there trees alg sealed documents id g leaf there leaf_is) more_are

-- all of them
pub tree_all : (tells : Bool) (lengths : List ℕ) (rows : List Row) (payloads : List (List ℕ)) (kept : Kept) (trees : Trees) (alg : HashAlg) (cohorts ids : List ℕ) (leaves : List (List ℕ))
    → AreReadable lengths rows → length (homes_from 0 rows) ≡ groups_of kept → ids ≡ ids_in cohorts 0 kept.sealed
    → leaves ≡ map (leaf_at trees alg kept.sealed (documents_in tells rows payloads)) ids → leaves ≡ leaves_in trees alg cohorts kept.sealed (documents_in tells rows payloads)
tree_all tells lengths rows payloads kept trees alg cohorts ids leaves readable many ids_are are =
    are ∙ ap (map (leaf_at trees alg kept.sealed (documents_in tells rows payloads))) ids_are
    ∙ leaves_are trees alg cohorts kept.sealed (documents_in tells rows payloads) (omega (arith, length-homes tells lengths rows payloads 0 readable, many))

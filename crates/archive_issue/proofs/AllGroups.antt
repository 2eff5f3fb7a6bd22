-- Each step keeps all groups standing.
use Rattle.std.proofs.Common.{◌≡◌, ℕ, zero, suc, ◌+◌, ◌<◌, ◌≤◌, Bool, true, false, List, [], ◌∷◌, ◌++◌, length, map, take, drop, Some, refl, sym, ap, subst, ◌∙◌, arith, append_assoc}
use Rattle.std.specs.Prelude.{⊤, ◌==◌, ◌||◌, slice_index_or, Contains, cond, if◌then◌else◌}
use Rattle.std.specs.List.{AllByRecursion, filter}
use Rattle.std.proofs.lemmas.List.{length-append, length-map, get_or_push}
use Rattle.std.proofs.lemmas.Bool.{eqb-true}
use Rattle.std.proofs.lemmas.List.Elements.{Contains-append_left, Contains-append_right}
use Rattle.algorithm_policy.specs.Content.{Content}
use Rattle.hash_kit.specs.declared.algorithm.HashAlg.{HashAlg}
use Rattle.hash_kit.specs.declared.algorithm.HashAlg.TheVariants.{Sha256, Sha384, Sha512}
use Rattle.hash_kit.specs.Digest.{digest_of}
use Rattle.hash_tree.specs.Tree.{tree_root, tree_path}
use Rattle.token_check.specs.Sound.{Stamp as Says, Sound}
use Rattle.civil_moment.specs.Moment.{is_before}
use Rattle.evidence_verify.specs.Stamps.{Checked, IsSound}
use Rattle.tree_renewal.specs.Leaf.{leaf_of}
use Rattle.tree_renewal.specs.Lists.{lists_of, LeadTo}
use Rattle.archive_chain.specs.Kept.{is_same, Cover, cohort_of, has_name, place_of, cohort_last, Last, last_after, last_of, token_of, last_token}
use Rattle.archive_chain.specs.Sequence.{Trees, path_of, sequence_of}
use Rattle.archive_chain.specs.Steps.{cover_at, sealed_from, renewed_from, stamped_in}
use Rattle.archive_chain.specs.Rules.{tokens_in, chain_has}
use Rattle.archive_chain.specs.History.{leaves_in}
use Rattle.evidence_syntax.specs.DocumentValue.{document_value, values_after}
use Rattle.archive_issue.proofs.Groups.{IsGood, good_first, good_begun, good_added, leads_from}

-- each group, with its documents
abbrev pub AreGood : Trees → Content → List (List Cover) → List (List (List ℕ)) → Type 0
AreGood trees policy [] documents = ⊤
AreGood trees policy (covers ∷ groups) [] = ⊥
AreGood trees policy (covers ∷ groups) (d ∷ documents) = IsGood trees policy d covers × AreGood trees policy groups documents

pub by_test : {G : Type 0} (b : Bool) → (b ≡ true → G) → (b ≡ false → G) → G
by_test true f g = f refl
by_test false f g = g refl

some_values : {A B : Type 0} (f : A → B) (xs : List A) → 0 < length xs → 0 < length (map f xs)
some_values f [] some = some
some_values f (x ∷ xs) some = omega arith

-- ---- of lists

at_end : (xs ys : List (List ℕ)) (y : List ℕ) → slice_index_or (xs ++ y ∷ ys) (length xs) [] ≡ y
at_end [] ys y = refl
at_end (x ∷ xs) ys y = at_end xs ys y

within : (xs ys : List (List ℕ)) (y : List ℕ) → length xs < length (xs ++ y ∷ ys)
within xs ys y = omega (arith, length-append xs (y ∷ ys))

each_last : {A : Type 0} (P : A → Type 0) (xs : List A) (x : A) → AllByRecursion P (xs ++ x ∷ []) → P x
each_last P [] x h = h.0
each_last P (y ∷ xs) x h = each_last P xs x h.1

pub last_end : (init : List Cover) (c last : Cover) → last_after c (init ++ last ∷ []) ≡ record { alg = last.alg; token = last.token }
last_end [] c last = refl
last_end (d ∷ init) c last = last_end init d last

last_token_end : (init : List Cover) (last : Cover) → last_token (init ++ last ∷ []) ≡ last.token
last_token_end [] last = refl
last_token_end (c ∷ init) last = ap (λ (l : Last). l.token) (last_end init c last)

-- ---- of a good group

good_token : (trees : Trees) (policy : Content) (d : List (List ℕ)) (covers : List Cover) (good : IsGood trees policy d covers) → last_token covers ≡ good.last.token
good_token trees policy d covers good = ap last_token good.covers_are ∙ last_token_end good.init good.last

good_sound : (trees : Trees) (policy : Content) (d : List (List ℕ)) (covers : List Cover) (good : IsGood trees policy d covers) → Sound policy (last_token covers) good.ended.last.says
good_sound trees policy d covers good =
    let ended = good.ended in
    let sound : IsSound policy ended.last = each_last (IsSound policy) ended.before ended.last (subst (AllByRecursion (IsSound policy)) ended.stamps_are good.stands.sound.sound) in
    let same : ended.last.place.ats.token ≡ last_token covers = ap (λ (p : Rattle.evidence_verify.specs.Stamps.Place). p.ats.token) ended.last_is ∙ good.token_is ∙ sym (good_token trees policy d covers good) in
    subst (λ (t : List ℕ). Sound policy t ended.last.says) same sound

-- ---- a new chain for the groups of these cohorts

-- the token's time isn't before that of one of these
abbrev pub IsLate : Content → Says → List (List ℕ) → Type 0
IsLate policy says tokens = (other : List ℕ) (other_says : Says) → Contains tokens other → Sound policy other other_says → is_before says.time other_says.time ≡ false

module _ (old : Trees) (policy : Content) (alg : HashAlg) (token : List ℕ) (says : Says) (cohorts : List ℕ) (leaves : List (List ℕ))
    (sound : Sound policy token says) (hash : says.alg ≡ alg) (root : says.imprint ≡ tree_root alg leaves) where
  abbrev entry : ℕ
  entry = length old

  abbrev trees : Trees
  trees = old ++ leaves ∷ []

  abbrev Renewed : List (List ℕ) → List (List Cover) → List (List (List ℕ)) → Type 0
  Renewed before groups documents = AreGood trees policy (renewed_from (cover_at entry true alg token) cohorts (length before) groups) documents

  renewed_one : (before rest : List (List ℕ)) (covers : List Cover) (d : List (List ℕ)) → IsGood trees policy d covers → 0 < length d
      → leaves ≡ before ++ leaf_of alg (sequence_of trees d covers) d ∷ rest → IsLate policy says (last_token covers ∷ []) → IsGood trees policy d (covers ++ cover_at entry true alg token (length before) ∷ [])
  renewed_one before rest covers d good some are late =
      let values = values_after alg (sequence_of trees d covers) d in
      let long : 0 < length values = some_values (document_value alg (sequence_of trees d covers)) d some in
      let path : path_of trees (cover_at entry true alg token (length before)) ≡ tree_path alg leaves (length before) = ap (λ (l : List (List ℕ)). tree_path alg l (length before)) (get_or_push old leaves [] entry refl) in
      good_begun trees policy d covers (cover_at entry true alg token (length before)) says good refl
      (record {
        sound = sound;
        alg = hash;
        leads = subst (λ (p : List (List ℕ)). LeadTo alg says.imprint values (lists_of values p)) (sym path) (leads_from alg leaves values (length before) says.imprint
            (subst (λ (l : List (List ℕ)). length before < length l) (sym are) (within before rest (leaf_of alg (sequence_of trees d covers) d))) long
            (ap (λ (l : List (List ℕ)). slice_index_or l (length before) []) are ∙ at_end before rest (leaf_of alg (sequence_of trees d covers) d)) root);
      })
      (late (last_token covers) good.ended.last.says (0, omega arith, refl) (good_sound trees policy d covers good))

  pub renewed_groups : (groups : List (List Cover)) (documents : List (List (List ℕ))) (before : List (List ℕ)) → AreGood trees policy groups documents → AllByRecursion (λ d. 0 < length d) documents
      → leaves ≡ before ++ leaves_in trees alg cohorts groups documents → IsLate policy says (tokens_in cohorts groups) → Renewed before groups documents
  renewed_groups [] documents before good some are late = tt
  renewed_groups (covers ∷ groups) [] before good some are late = absurd good
  renewed_groups (covers ∷ groups) (d ∷ documents) before good some are late =
      let leaf = leaf_of alg (sequence_of trees d covers) d in
      let rest = leaves_in trees alg cohorts groups documents in
      let named : List Cover → Bool = λ g. has_name cohorts (cohort_of g) in
      let new : List (List Cover) = (covers ++ cover_at entry true alg token (length before) ∷ []) ∷ renewed_from (cover_at entry true alg token) cohorts (length before + 1) groups in
      let same : List (List Cover) = covers ∷ renewed_from (cover_at entry true alg token) cohorts (length before) groups in
      by_test (named covers)
      (λ e.
      let here : leaves ≡ before ++ leaf ∷ rest = are ∙ ap (λ (b : Bool). before ++ (if b then leaf ∷ rest else rest)) e in
      let late_here : IsLate policy says (last_token covers ∷ tokens_in cohorts groups) =
      subst (λ (b : Bool). IsLate policy says (map last_token (cond b (covers ∷ filter named groups) (filter named groups)))) e late in
      let one = renewed_one before rest covers d good.0 some.0 here (λ o s in'. late_here o s (Contains-append_left (last_token covers ∷ []) (tokens_in cohorts groups) o in')) in
      let more = renewed_groups groups documents (before ++ leaf ∷ []) good.1 some.1 (here ∙ sym (append_assoc before (leaf ∷ []) rest))
      (λ o s in'. late_here o s (Contains-append_right (last_token covers ∷ []) (tokens_in cohorts groups) o in')) in
      let next_place : length (before ++ leaf ∷ []) ≡ length before + 1 = length-append before (leaf ∷ []) in
      subst (λ (b : Bool). AreGood trees policy (if b then new else same) (d ∷ documents)) (sym e)
      (one, subst (λ (n : ℕ). AreGood trees policy (renewed_from (cover_at entry true alg token) cohorts n groups) documents) next_place more))
      (λ e.
      let here : leaves ≡ before ++ rest = are ∙ ap (λ (b : Bool). before ++ (if b then leaf ∷ rest else rest)) e in
      let late_here : IsLate policy says (tokens_in cohorts groups) =
      subst (λ (b : Bool). IsLate policy says (map last_token (cond b (covers ∷ filter named groups) (filter named groups)))) e late in
      subst (λ (b : Bool). AreGood trees policy (if b then new else same) (d ∷ documents)) (sym e)
      (good.0, renewed_groups groups documents before good.1 some.1 here late_here))

  -- so many pending groups with their first time-stamp
  pub sealed_groups : (n : ℕ) (documents : List (List (List ℕ))) (before : List (List ℕ)) → n ≤ length documents → AllByRecursion (λ d. 0 < length d) documents
      → leaves ≡ before ++ map (leaf_of alg []) (take n documents) → AreGood trees policy (sealed_from (cover_at entry true alg token) (length before) n) documents
  sealed_groups zero documents before few some are = tt
  sealed_groups (suc n) [] before few some are = absurd (omega (arith, few))
  sealed_groups (suc n) (d ∷ documents) before few some are =
      let leaf = leaf_of alg [] d in
      let rest = map (leaf_of alg []) (take n documents) in
      let values = values_after alg [] d in
      let path : path_of trees (cover_at entry true alg token (length before)) ≡ tree_path alg leaves (length before) = ap (λ (l : List (List ℕ)). tree_path alg l (length before)) (get_or_push old leaves [] entry refl) in
      let one = good_first trees policy d (cover_at entry true alg token (length before)) says refl
      (record {
        sound = sound;
        alg = hash;
        leads = subst (λ (p : List (List ℕ)). LeadTo alg says.imprint values (lists_of values p)) (sym path) (leads_from alg leaves values (length before) says.imprint
            (subst (λ (l : List (List ℕ)). length before < length l) (sym are) (within before rest leaf)) (some_values (document_value alg []) d some.0)
            (ap (λ (l : List (List ℕ)). slice_index_or l (length before) []) are ∙ at_end before rest leaf) root);
      }) in
      let more = sealed_groups n documents (before ++ leaf ∷ []) (omega (arith, few)) some.1 (are ∙ sym (append_assoc before (leaf ∷ []) rest)) in
      let next_place : length (before ++ leaf ∷ []) ≡ length before + 1 = length-append before (leaf ∷ []) in
      (one, subst (λ (k : ℕ). AreGood trees policy (sealed_from (cover_at entry true alg token) k n) documents) next_place more)

pub good_append : (trees : Trees) (policy : Content) (groups new : List (List Cover)) (documents : List (List (List ℕ))) → AreGood trees policy groups documents
    → AreGood trees policy new (drop (length groups) documents) → AreGood trees policy (groups ++ new) documents
good_append found policy [] new documents good more = more
good_append found policy (covers ∷ groups) new [] good more = absurd good
good_append found policy (covers ∷ groups) new (d ∷ documents) good more = (good.0, good_append found policy groups new documents good.1 more)

-- ---- a further time-stamp for the groups of these cohorts

abbrev pub leaf_at : HashAlg → List (List Cover) → ℕ → List ℕ
leaf_at alg all name = digest_of alg (token_of (cohort_last all name))

in_place : (f : ℕ → List ℕ) (names : List ℕ) (name : ℕ) → has_name names name ≡ true → (place_of names name < length names) × (slice_index_or (map f names) (place_of names name) [] ≡ f name)
in_place f [] name has = cc
in_place f (other ∷ names) name has =
    by_test (other == name)
    (λ e.
    let here : place_of (other ∷ names) name ≡ 0 = ap (λ (b : Bool). if b then 0 else suc (place_of names name)) e in
    let same : other ≡ name = eqb-true other name e in
    (subst (λ (k : ℕ). k < length (other ∷ names)) (sym here) (omega arith), ap (λ (k : ℕ). slice_index_or (map f (other ∷ names)) k []) here ∙ ap f same))
    (λ e.
    let later : place_of (other ∷ names) name ≡ suc (place_of names name) = ap (λ (b : Bool). if b then 0 else suc (place_of names name)) e in
    let rest : has_name names name ≡ true = sym (ap (λ (b : Bool). b || has_name names name) e) ∙ has in
    let found = in_place f names name rest in
    (subst (λ (k : ℕ). k < length (other ∷ names)) (sym later) (omega (arith, found.0)), ap (λ (k : ℕ). slice_index_or (map f (other ∷ names)) k []) later ∙ found.1))

named_in : (P : ℕ → Type 0) (names : List ℕ) (name : ℕ) → AllByRecursion P names → has_name names name ≡ true → P name
named_in P [] name each has = cc
named_in P (other ∷ names) name each has =
    by_test (other == name)
    (λ e. subst P (eqb-true other name e) each.0)
    (λ e. named_in P names name each.1 (sym (ap (λ (b : Bool). b || has_name names name) e) ∙ has))

same_hash : (a b : HashAlg) → is_same a b ≡ true → a ≡ b
same_hash Sha256 Sha256 e = refl
same_hash Sha256 Sha384 e = cc
same_hash Sha256 Sha512 e = cc
same_hash Sha384 Sha256 e = cc
same_hash Sha384 Sha384 e = refl
same_hash Sha384 Sha512 e = cc
same_hash Sha512 Sha256 e = cc
same_hash Sha512 Sha384 e = cc
same_hash Sha512 Sha512 e = refl

good_last : (trees : Trees) (policy : Content) (d : List (List ℕ)) (covers : List Cover) (good : IsGood trees policy d covers) → last_of covers ≡ Some (record { alg = good.last.alg; token = good.last.token })
good_last found policy d covers good = ap last_of good.covers_are ∙ ends good.init where
  ends : (init : List Cover) → last_of (init ++ good.last ∷ []) ≡ Some (record { alg = good.last.alg; token = good.last.token })
  ends [] = refl
  ends (c ∷ init) = ap Some (last_end init c good.last)

-- the cohort's last is that of each of its groups
abbrev pub AreShared : List (List Cover) → List (List Cover) → Type 0
AreShared all groups = AllByRecursion (λ covers. cohort_last all (cohort_of covers) ≡ last_of covers) groups

module _ (old : Trees) (policy : Content) (alg : HashAlg) (token : List ℕ) (says : Says) (cohorts : List ℕ) (leaves : List (List ℕ)) (all : List (List Cover))
    (sound : Sound policy token says) (hash : says.alg ≡ alg) (root : says.imprint ≡ tree_root alg leaves)
    (are : leaves ≡ map (leaf_at alg all) cohorts) (hashes : AllByRecursion (λ c. chain_has alg (cohort_last all c) ≡ true) cohorts) where
  stamped_one : (covers : List Cover) (d : List (List ℕ)) → has_name cohorts (cohort_of covers) ≡ true → cohort_last all (cohort_of covers) ≡ last_of covers
      → IsGood (old ++ leaves ∷ []) policy d covers → IsLate policy says (last_token covers ∷ [])
      → IsGood (old ++ leaves ∷ []) policy d (covers ++ cover_at (length old) false alg token (place_of cohorts (cohort_of covers)) ∷ [])
  stamped_one covers d has shared good late =
      let trees : Trees = old ++ leaves ∷ [] in
      let name = cohort_of covers in
      let place = place_of cohorts name in
      let found = in_place (leaf_at alg all) cohorts name has in
      let last = good_last trees policy d covers good in
      let value : List ℕ = digest_of alg good.last.token in
      let leaf : slice_index_or leaves place [] ≡ value =
      ap (λ (l : List (List ℕ)). slice_index_or l place []) are ∙ found.1 ∙ ap (λ l. digest_of alg (token_of l)) (shared ∙ last) in
      let within_leaves : place < length leaves = subst (λ (l : List (List ℕ)). place < length l) (sym are) (omega (arith, found.0, length-map cohorts (leaf_at alg all))) in
      let path : path_of trees (cover_at (length old) false alg token place) ≡ tree_path alg leaves place = ap (λ (l : List (List ℕ)). tree_path alg l place) (get_or_push old leaves [] (length old) refl) in
      let chain_hash : is_same good.last.alg alg ≡ true =
      sym (ap (chain_has alg) (shared ∙ last)) ∙ named_in (λ c. chain_has alg (cohort_last all c) ≡ true) cohorts name hashes has in
      good_added trees policy d covers (cover_at (length old) false alg token place) says good refl
      (record {
        sound = sound;
        alg = hash;
        leads = subst (λ (p : List (List ℕ)). LeadTo alg says.imprint (value ∷ []) (lists_of (value ∷ []) p)) (sym path)
            (leads_from alg leaves (value ∷ []) place says.imprint within_leaves (omega arith) leaf root);
      })
      (late (last_token covers) good.ended.last.says (0, omega arith, refl) (good_sound trees policy d covers good))
      (sym (same_hash good.last.alg alg chain_hash))

  pub stamped_groups : (groups : List (List Cover)) (documents : List (List (List ℕ))) → AreGood (old ++ leaves ∷ []) policy groups documents → AreShared all groups
      → IsLate policy says (tokens_in cohorts groups) → AreGood (old ++ leaves ∷ []) policy (map (stamped_in (cover_at (length old) false alg token) cohorts) groups) documents
  stamped_groups [] documents good shared late = tt
  stamped_groups (covers ∷ groups) [] good shared late = absurd good
  stamped_groups (covers ∷ groups) (d ∷ documents) good shared late =
      let named : List Cover → Bool = λ g. has_name cohorts (cohort_of g) in
      let more : List Cover = covers ++ cover_at (length old) false alg token (place_of cohorts (cohort_of covers)) ∷ [] in
      by_test (named covers)
      (λ e.
      let late_here : IsLate policy says (last_token covers ∷ tokens_in cohorts groups) =
      subst (λ (b : Bool). IsLate policy says (map last_token (cond b (covers ∷ filter named groups) (filter named groups)))) e late in (
        subst (λ (b : Bool). IsGood (old ++ leaves ∷ []) policy d (if b then more else covers)) (sym e)
            (stamped_one covers d e shared.0 good.0 (λ o s in'. late_here o s (Contains-append_left (last_token covers ∷ []) (tokens_in cohorts groups) o in'))),
        stamped_groups groups documents good.1 shared.1 (λ o s in'. late_here o s (Contains-append_right (last_token covers ∷ []) (tokens_in cohorts groups) o in')),
      ))
      (λ e.
      let late_here : IsLate policy says (tokens_in cohorts groups) =
      subst (λ (b : Bool). IsLate policy says (map last_token (cond b (covers ∷ filter named groups) (filter named groups)))) e late in
      (subst (λ (b : Bool). IsGood (old ++ leaves ∷ []) policy d (if b then more else covers)) (sym e) good.0, stamped_groups groups documents good.1 shared.1 late_here))

-- Each row that nothing took over has the peak of its cohort, after each kind of entry.
use Rattle.std.proofs.Common.{◌≡◌, ℕ, zero, suc, ◌+◌, ◌<◌, ◌≤◌, ◌⊎◌, inl, inr, Bool, true, false, List, [], ◌∷◌, ◌++◌, length, map, Some, refl, sym, ap, subst, ◌∙◌, arith}
use Rattle.std.specs.Prelude.{slice_get, if◌then◌else◌}
use Rattle.std.specs.List.{AllByRecursion}
use Rattle.hash_kit.specs.declared.algorithm.HashAlg.{HashAlg}
use Rattle.archive_chain.specs.Kept.{Cover, cohort_of, has_name, is_in, place_of}
use Rattle.archive_chain.specs.Steps.{cover_at, sealed_from, renewed_from, stamped_in}
use Rattle.archive_chain.specs.InsideRows.{Row as Chain, taken, most_after, stamped}
use Rattle.archive_chain.specs.InsidePeak.{IsPeak, IsTop}
use Rattle.archive_chain.proofs.RowsRenewing.{by_test, cohort_append}
use Rattle.archive_chain.proofs.Walking.{get_map}
use Rattle.archive_chain.proofs.Indexing.{none_some, some_is, got_map, all_at, no_next}
use Rattle.archive_chain.proofs.Peaks.{peak_stamped, get_renewed, got_renewed, grown_named}

-- no group of the cohort changes
still : (P : ℕ → Type 0) (groups after : List (List Cover)) (most least : ℕ) → IsPeak P groups most least
    → ((id : ℕ) (g : List Cover) → slice_get groups id ≡ Some g → P (cohort_of g) → slice_get after id ≡ Some g)
    → ((id : ℕ) (g : List Cover) → slice_get after id ≡ Some g → P (cohort_of g) → slice_get groups id ≡ Some g)
    → IsPeak P after most least
still P groups after most least p forth back = record {
  group = p.group;
  there = forth least p.group p.there p.named;
  named = p.named;
  many = p.many;
  no_more = λ id g at is. p.no_more id g (back id g at is) is;
  first = λ id g at is same. p.first id g (back id g at is) is same;
}

-- ---- a Seal

get_front : (xs ys : List (List Cover)) (i : ℕ) (x : List Cover) → slice_get xs i ≡ Some x → slice_get (xs ++ ys) i ≡ Some x
get_front [] ys i x e = absurd (none_some x e)
get_front (y ∷ xs) ys zero x e = e
get_front (y ∷ xs) ys (suc i) x e = get_front xs ys i x e

get_behind : (xs ys : List (List Cover)) → slice_get (xs ++ ys) (length xs) ≡ slice_get ys 0
get_behind [] ys = refl
get_behind (x ∷ xs) ys = get_behind xs ys

get_split : (xs ys : List (List Cover)) (i : ℕ) (x : List Cover) → slice_get (xs ++ ys) i ≡ Some x → (slice_get xs i ≡ Some x) ⊎ ((j : ℕ) × (slice_get ys j ≡ Some x) × (length xs ≤ i))
get_split [] ys i x e = inr (i, e, omega arith)
get_split (y ∷ xs) ys zero x e = inl e
get_split (y ∷ xs) ys (suc i) x e = more (get_split xs ys i x e) where
  more : (slice_get xs i ≡ Some x) ⊎ ((j : ℕ) × (slice_get ys j ≡ Some x) × (length xs ≤ i)) → (slice_get xs i ≡ Some x) ⊎ ((j : ℕ) × (slice_get ys j ≡ Some x) × (length (y ∷ xs) ≤ suc i))
  more (inl h) = inl h
  more (inr h) = let low = h.2 in inr (h.0, h.1, omega (arith, low))

module _ (n : ℕ) (alg : HashAlg) (token : List ℕ) where
  abbrev begin : ℕ → Cover
  begin place = cover_at n true alg token place

  new_one : (place count j : ℕ) (g : List Cover) → slice_get (sealed_from begin place count) j ≡ Some g → (p : ℕ) × (g ≡ begin p ∷ [])
  new_one place zero j g e = absurd (none_some g e)
  new_one place (suc count) zero g e = (place, sym (some_is (begin place ∷ []) g e))
  new_one place (suc count) (suc j) g e = new_one (place + 1) count j g e

  new_cohort : (place count j : ℕ) (g : List Cover) → slice_get (sealed_from begin place count) j ≡ Some g → (cohort_of g ≡ n) × (length g ≡ 1)
  new_cohort place count j g e = let is = new_one place count j g e in (ap cohort_of is.1, ap (λ (l : List Cover). length l) is.1)

  module _ (groups : List (List Cover)) (count : ℕ) where
    sealed_top : (r : Chain) → r.entry < n → IsTop groups r → IsTop (groups ++ sealed_from begin 0 count) r
    sealed_top r less top = λ none.
        still (λ c. r.entry ≡ c) groups (groups ++ sealed_from begin 0 count) r.most r.least (top none)
        (λ id g at is. get_front groups (sealed_from begin 0 count) id g at)
        (λ id g at is. old id g is (get_split groups (sealed_from begin 0 count) id g at)) where
          old : (id : ℕ) (g : List Cover) → r.entry ≡ cohort_of g → (slice_get groups id ≡ Some g) ⊎ ((j : ℕ) × (slice_get (sealed_from begin 0 count) j ≡ Some g) × (length groups ≤ id)) → slice_get groups id ≡ Some g
          old id g is (inl h) = h
          old id g is (inr h) = absurd (let new = new_cohort 0 count h.0 g h.1 in let e = new.0 in omega (arith, is, e, less))

    pub sealed_tops : (rows : List Chain) → AllByRecursion (λ (r : Chain). r.entry < n) rows → AllByRecursion (IsTop groups) rows → AllByRecursion (IsTop (groups ++ sealed_from begin 0 count)) rows
    sealed_tops [] less tops = tt
    sealed_tops (r ∷ rows) less tops = (sealed_top r less.0 tops.0, sealed_tops rows less.1 tops.1)

  pub sealed_new : (groups : List (List Cover)) (count : ℕ) (r : Chain) → AllByRecursion (λ (g : List Cover). cohort_of g < n) groups → 0 < count → r.entry ≡ n → r.most ≡ 1 → r.least ≡ length groups
      → IsTop (groups ++ sealed_from begin 0 count) r
  sealed_new groups zero r below some entry most least = absurd (omega (arith, some))
  sealed_new groups (suc count) r below some entry most least = λ none. record {
    group = begin 0 ∷ [];
    there = ap (λ (i : ℕ). slice_get (groups ++ sealed_from begin 0 (suc count)) i) least ∙ get_behind groups (sealed_from begin 0 (suc count));
    named = entry;
    many = sym most;
    no_more = λ id g at is. few id g is (get_split groups (sealed_from begin 0 (suc count)) id g at);
    first = λ id g at is same. behind id g is (get_split groups (sealed_from begin 0 (suc count)) id g at);
  } where
    before : (id : ℕ) (g : List Cover) → r.entry ≡ cohort_of g → slice_get groups id ≡ Some g → ⊥
    before id g is at = let low = all_at (λ (x : List Cover). cohort_of x < n) groups id g below at in omega (arith, low, is, entry)

    few : (id : ℕ) (g : List Cover) → r.entry ≡ cohort_of g → (slice_get groups id ≡ Some g) ⊎ ((j : ℕ) × (slice_get (sealed_from begin 0 (suc count)) j ≡ Some g) × (length groups ≤ id)) → length g ≤ r.most
    few id g is (inl h) = absurd (before id g is h)
    few id g is (inr h) = let new = new_cohort 0 (suc count) h.0 g h.1 in let one = new.1 in omega (arith, one, most)

    behind : (id : ℕ) (g : List Cover) → r.entry ≡ cohort_of g → (slice_get groups id ≡ Some g) ⊎ ((j : ℕ) × (slice_get (sealed_from begin 0 (suc count)) j ≡ Some g) × (length groups ≤ id)) → r.least ≤ id
    behind id g is (inl h) = absurd (before id g is h)
    behind id g is (inr h) = let low = h.2 in omega (arith, low, least)

-- ---- a further time-stamp

module _ (n : ℕ) (alg : HashAlg) (token : List ℕ) (named : List ℕ) (groups : List (List Cover)) where
  abbrev further : ℕ → Cover
  further place = cover_at n false alg token place

  abbrev mark : List Cover → List Cover
  mark g = stamped_in further named g

  mark_other : (g : List Cover) → is_in named g ≡ false → mark g ≡ g
  mark_other g f = ap (λ (b : Bool). if b then g ++ further (place_of named (cohort_of g)) ∷ [] else g) f

  other_mark : (g : List Cover) (name : ℕ) → has_name named name ≡ false → name ≡ cohort_of (mark g) → mark g ≡ g
  other_mark g name free is =
      by_test (is_in named g)
      (λ t. absurd (let same : name ≡ cohort_of g = is ∙ marked_cohort g t in let no = sym free ∙ ap (has_name named) same ∙ t in cc))
      (λ f. mark_other g f) where
        marked_cohort : (h : List Cover) → is_in named h ≡ true → cohort_of (mark h) ≡ cohort_of h
        marked_cohort h t = ap (λ (b : Bool). cohort_of (if b then h ++ further (place_of named (cohort_of h)) ∷ [] else h)) t ∙ cohort_append 0 h (further (place_of named (cohort_of h)) ∷ [])

  stamped_top : (r : Chain) → IsTop groups r → IsTop (map mark groups) (stamped further named r)
  stamped_top r top = λ none.
      let most_is : most_after named r.entry r.most r.next ≡ (if has_name named r.entry then r.most + 1 else r.most) = ap (most_after named r.entry r.most) none in
      by_test (has_name named r.entry)
      (λ t. subst (λ (m : ℕ). IsPeak (λ c. r.entry ≡ c) (map mark groups) m r.least) (sym (most_is ∙ ap (λ (b : Bool). if b then r.most + 1 else r.most) t))
      (peak_stamped n alg token named r.entry groups r.most r.least (top none) t))
      (λ f. subst (λ (m : ℕ). IsPeak (λ c. r.entry ≡ c) (map mark groups) m r.least) (sym (most_is ∙ ap (λ (b : Bool). if b then r.most + 1 else r.most) f))
      (still (λ c. r.entry ≡ c) groups (map mark groups) r.most r.least (top none)
      (λ id g at is. get_map mark groups id g at ∙ ap (λ (x : List Cover). Some x) (mark_other g (sym (ap (has_name named) is) ∙ f)))
      (λ id g at is.
      let was = got_map mark groups id g at in
      let same : g ≡ was.0 = was.2 ∙ other_mark was.0 r.entry f (is ∙ ap cohort_of was.2) in
      was.1 ∙ ap (λ (x : List Cover). Some x) (sym same))))

  pub stamped_tops : (rows : List Chain) → AllByRecursion (IsTop groups) rows → AllByRecursion (IsTop (map mark groups)) (map (stamped further named) rows)
  stamped_tops [] tops = tt
  stamped_tops (r ∷ rows) tops = (stamped_top r tops.0, stamped_tops rows tops.1)

-- ---- new trees

module _ (n : ℕ) (alg : HashAlg) (token : List ℕ) (named : List ℕ) (groups : List (List Cover)) (m : ℕ) where
  abbrev after : List (List Cover)
  after = renewed_from (cover_at n true alg token) named 0 groups

  abbrev with_new : ℕ → List Cover → List Cover
  with_new p g = if is_in named g then g ++ cover_at n true alg token p ∷ [] else g

  new_other : (p : ℕ) (g : List Cover) → is_in named g ≡ false → with_new p g ≡ g
  new_other p g f = ap (λ (b : Bool). if b then g ++ cover_at n true alg token p ∷ [] else g) f

  renewed_top : (r : Chain) → r.entry < n → IsTop groups r → IsTop after (taken named m r)
  renewed_top r less top = λ none.
      let was = no_next named m r.entry r.next none in
      let free = was.1 in
      still (λ c. r.entry ≡ c) groups after r.most r.least (top was.0)
      (λ id g at is.
      let new = get_renewed n alg token named 0 id groups g at in
      new.1 ∙ ap (λ (x : List Cover). Some x) (new_other new.0 g (sym (ap (has_name named) is) ∙ free)))
      (λ id h at is.
      let old = got_renewed n alg token named 0 id groups h at in
      let place = old.2.0 in
      let same : h ≡ old.0 = by_test (is_in named old.0)
      (λ t. absurd (let cohort = (grown_named n alg token named place old.0 t).0 in let e : r.entry ≡ n = is ∙ ap cohort_of old.2.1 ∙ cohort in omega (arith, e, less)))
      (λ f. old.2.1 ∙ new_other place old.0 f) in
      old.1 ∙ ap (λ (x : List Cover). Some x) (sym same))

  pub renewed_tops : (rows : List Chain) → AllByRecursion (λ (r : Chain). r.entry < n) rows → AllByRecursion (IsTop groups) rows → AllByRecursion (IsTop after) (map (taken named m) rows)
  renewed_tops [] less tops = tt
  renewed_tops (r ∷ rows) less tops = (renewed_top r less.0 tops.0, renewed_tops rows less.1 tops.1)

-- the cohort of each group, from that of its number
pub each_below : (n : ℕ) (groups : List (List Cover)) → AllByRecursion (λ c. c < n) (map cohort_of groups) → AllByRecursion (λ (g : List Cover). cohort_of g < n) groups
each_below n [] below = tt
each_below n (g ∷ groups) below = (below.0, each_below n groups below.1)

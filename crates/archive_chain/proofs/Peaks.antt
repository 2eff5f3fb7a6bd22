-- The peak of some cohorts: the full rule, and what each kind of entry makes of it.
use Rattle.std.proofs.Common.{◌≡◌, ℕ, zero, suc, ◌+◌, ◌<◌, ◌≤◌, ◌⊎◌, inl, inr, Bool, true, false, List, [], ◌∷◌, ◌++◌, length, map, Some, None, refl, sym, ap, subst, ◌∙◌, arith}
use Rattle.std.specs.Prelude.{◌==◌, ◌||◌, ◌&&◌, nat_le, nat_lt, slice_get, if◌then◌else◌}
use Rattle.std.proofs.lemmas.Bool.{eqb-true, eq-eqb, leb-true, leb-false, ltb-true, ltb-false}
use Rattle.std.specs.List.{AllByRecursion}
use Rattle.std.proofs.lemmas.List.{length-append}
use Rattle.hash_kit.specs.declared.algorithm.HashAlg.{HashAlg}
use Rattle.archive_chain.specs.Kept.{Cover, cohort_of, has_name, is_in, place_of}
use Rattle.archive_chain.specs.Steps.{cover_at, renewed_from, stamped_in}
use Rattle.archive_chain.proofs.Walking.{get_map}
use Rattle.archive_chain.specs.Rules.{first_full}
use Rattle.archive_chain.proofs.RowsRenewing.{by_test, cohort_append}
use Rattle.archive_chain.specs.InsidePeak.{IsPeak, higher}
use Rattle.archive_chain.proofs.Indexing.{none_some, some_is, got_map, all_at}

-- ---- the first full group

module _ (cohorts : List ℕ) where
  abbrev is_full : List Cover → Bool
  is_full g = is_in cohorts g && nat_le 200 (length g)

  full_one : (id : ℕ) (g : List Cover) (groups : List (List Cover)) → is_full g ≡ true → first_full cohorts id (g ∷ groups) ≡ Some id
  full_one id g groups e = ap (λ (b : Bool). if b then Some id else first_full cohorts (id + 1) groups) e

  full_later : (id : ℕ) (g : List Cover) (groups : List (List Cover)) → is_full g ≡ false → first_full cohorts id (g ∷ groups) ≡ first_full cohorts (id + 1) groups
  full_later id g groups e = ap (λ (b : Bool). if b then Some id else first_full cohorts (id + 1) groups) e

  -- none before it
  first_at : (id i : ℕ) (groups : List (List Cover)) (group : List Cover) → slice_get groups i ≡ Some group → is_full group ≡ true
      → ((j : ℕ) (g : List Cover) → slice_get groups j ≡ Some g → is_full g ≡ true → i ≤ j) → first_full cohorts id groups ≡ Some (id + i)
  first_at id i [] group e full before = absurd (none_some group e)
  first_at id zero (g ∷ groups) group e full before =
      let same : id ≡ id + 0 = omega arith in
      full_one id g groups (ap is_full (some_is g group e) ∙ full) ∙ ap (λ (n : ℕ). Some n) same
  first_at id (suc i) (g ∷ groups) group e full before =
      by_test (is_full g)
      (λ t. absurd (let h = before 0 g refl t in omega (arith, h)))
      (λ f.
      let moved : (id + 1) + i ≡ id + suc i = omega arith in
      full_later id g groups f ∙ first_at (id + 1) i groups group e full (λ j h at is. let k = before (suc j) h at is in omega (arith, k)) ∙ ap (λ (n : ℕ). Some n) moved)

  none_full : (id : ℕ) (groups : List (List Cover)) → ((j : ℕ) (g : List Cover) → slice_get groups j ≡ Some g → is_full g ≡ false) → first_full cohorts id groups ≡ None
  none_full id [] none = refl
  none_full id (g ∷ groups) none = full_later id g groups (none 0 g refl) ∙ none_full (id + 1) groups (λ j h at. none (suc j) h at)

  full_is : (g : List Cover) → is_in cohorts g ≡ true → 200 ≤ length g → is_full g ≡ true
  full_is g in_ many = by_test (nat_le 200 (length g))
      (λ t. (λ i. in_ i && t i))
      (λ f. absurd (let h = leb-false 200 (length g) f in omega (arith, h, many)))

  full_says : (g : List Cover) → is_full g ≡ true → (is_in cohorts g ≡ true) × (200 ≤ length g)
  full_says g e =
      by_test (is_in cohorts g)
      (λ t. (t, leb-true 200 (length g) (sym (ap (λ (b : Bool). b && nat_le 200 (length g)) t) ∙ e)))
      (λ f. absurd (let h = sym (ap (λ (b : Bool). b && nat_le 200 (length g)) f) ∙ e in cc))

  pub peak_full : (groups : List (List Cover)) (most least : ℕ) → IsPeak (λ c. has_name cohorts c ≡ true) groups most least → most ≤ 200 → first_full cohorts 0 groups ≡ (if nat_le 200 most then Some least else None)
  peak_full groups most least p short =
      by_test (nat_le 200 most)
      (λ t.
      let many = p.many in
      let big = leb-true 200 most t in
      let zero_on : 0 + least ≡ least = omega arith in
      first_at 0 least groups p.group p.there (full_is p.group p.named (omega (arith, many, big)))
      (λ j g at full. let says = full_says g full in let len = says.1 in let no = p.no_more j g at says.0 in
      p.first j g at says.0 (omega (arith, len, no, short)))
      ∙ ap (λ (n : ℕ). Some n) zero_on ∙ sym (ap (λ (b : Bool). if b then Some least else None) t))
      (λ f.
      let small = leb-false 200 most f in
      none_full 0 groups (λ j g at. by_test (is_full g)
      (λ t. absurd (let says = full_says g t in let len = says.1 in let no = p.no_more j g at says.0 in omega (arith, small, len, no)))
      (λ e. e)) ∙ sym (ap (λ (b : Bool). if b then Some least else None) f))

-- ---- the peak of more cohorts

module _ (name : ℕ) (cohorts : List ℕ) (groups : List (List Cover)) (a b : ℕ × ℕ) (p : IsPeak (λ c. name ≡ c) groups a.0 a.1) (q : IsPeak (λ c. has_name cohorts c ≡ true) groups b.0 b.1) where
  abbrev Both : ℕ → Type 0
  Both c = has_name (name ∷ cohorts) c ≡ true

  either : (c : ℕ) → Both c → (name ≡ c) ⊎ (has_name cohorts c ≡ true)
  either c h =
      by_test (name == c)
      (λ e. inl (eqb-true name c e))
      (λ e. inr (sym (ap (λ (t : Bool). t || has_name cohorts c) e) ∙ h))

  left_in : (c : ℕ) → name ≡ c → Both c
  left_in c e = ap (λ (t : Bool). t || has_name cohorts c) (eq-eqb name c e)

  right_in : (c : ℕ) → has_name cohorts c ≡ true → Both c
  right_in c h =
      by_test (name == c)
      (λ e. ap (λ (t : Bool). t || has_name cohorts c) e)
      (λ e. ap (λ (t : Bool). t || has_name cohorts c) e ∙ h)

  of_left : b.0 ≤ a.0 → (b.0 ≡ a.0 → a.1 ≤ b.1) → IsPeak Both groups a.0 a.1
  of_left le tie = record {
    group = p.group;
    there = p.there;
    named = left_in (cohort_of p.group) p.named;
    many = p.many;
    no_more = λ id g at h. which id g at (either (cohort_of g) h);
    first = λ id g at h same. place id g at same (either (cohort_of g) h);
  } where
    which : (id : ℕ) (g : List Cover) → slice_get groups id ≡ Some g → (name ≡ cohort_of g) ⊎ (has_name cohorts (cohort_of g) ≡ true) → length g ≤ a.0
    which id g at (inl e) = p.no_more id g at e
    which id g at (inr e) = let h = q.no_more id g at e in omega (arith, h, le)

    place : (id : ℕ) (g : List Cover) → slice_get groups id ≡ Some g → length g ≡ a.0 → (name ≡ cohort_of g) ⊎ (has_name cohorts (cohort_of g) ≡ true) → a.1 ≤ id
    place id g at same (inl e) = p.first id g at e same
    place id g at same (inr e) =
        let most = q.no_more id g at e in
        let equal : b.0 ≡ a.0 = omega (arith, most, le, same) in
        let low = q.first id g at e (omega (arith, same, equal)) in
        let t = tie equal in omega (arith, low, t)

  of_right : a.0 ≤ b.0 → (a.0 ≡ b.0 → b.1 ≤ a.1) → IsPeak Both groups b.0 b.1
  of_right le tie = record {
    group = q.group;
    there = q.there;
    named = right_in (cohort_of q.group) q.named;
    many = q.many;
    no_more = λ id g at h. which id g at (either (cohort_of g) h);
    first = λ id g at h same. place id g at same (either (cohort_of g) h);
  } where
    which : (id : ℕ) (g : List Cover) → slice_get groups id ≡ Some g → (name ≡ cohort_of g) ⊎ (has_name cohorts (cohort_of g) ≡ true) → length g ≤ b.0
    which id g at (inl e) = let h = p.no_more id g at e in omega (arith, h, le)
    which id g at (inr e) = q.no_more id g at e

    place : (id : ℕ) (g : List Cover) → slice_get groups id ≡ Some g → length g ≡ b.0 → (name ≡ cohort_of g) ⊎ (has_name cohorts (cohort_of g) ≡ true) → b.1 ≤ id
    place id g at same (inr e) = q.first id g at e same
    place id g at same (inl e) =
        let most = p.no_more id g at e in
        let equal : a.0 ≡ b.0 = omega (arith, most, le, same) in
        let low = p.first id g at e (omega (arith, same, equal)) in
        let t = tie equal in omega (arith, low, t)

  pub peak_both : IsPeak Both groups (higher a b).0 (higher a b).1
  peak_both =
      by_test (nat_lt a.0 b.0)
      (λ t. subst (λ (x : ℕ × ℕ). IsPeak Both groups x.0 x.1) (sym (ap (λ (x : Bool). if x then b else if nat_lt b.0 a.0 then a else if nat_le a.1 b.1 then a else b) t))
      (let l = ltb-true a.0 b.0 t in of_right (omega (arith, l)) (λ e. omega (arith, l, e))))
      (λ f.
      let le = ltb-false a.0 b.0 f in
      by_test (nat_lt b.0 a.0)
      (λ t. subst (λ (x : ℕ × ℕ). IsPeak Both groups x.0 x.1) (sym (ap (λ (x : Bool). if x then b else if nat_lt b.0 a.0 then a else if nat_le a.1 b.1 then a else b) f
      ∙ ap (λ (x : Bool). if x then a else if nat_le a.1 b.1 then a else b) t))
      (let l = ltb-true b.0 a.0 t in of_left (omega (arith, l)) (λ e. omega (arith, l, e))))
      (λ g.
      let ge = ltb-false b.0 a.0 g in
      by_test (nat_le a.1 b.1)
      (λ t. subst (λ (x : ℕ × ℕ). IsPeak Both groups x.0 x.1) (sym (ap (λ (x : Bool). if x then b else if nat_lt b.0 a.0 then a else if nat_le a.1 b.1 then a else b) f
      ∙ ap (λ (x : Bool). if x then a else if nat_le a.1 b.1 then a else b) g ∙ ap (λ (x : Bool). if x then a else b) t))
      (let l = leb-true a.1 b.1 t in of_left (omega (arith, le)) (λ e. l)))
      (λ t. subst (λ (x : ℕ × ℕ). IsPeak Both groups x.0 x.1) (sym (ap (λ (x : Bool). if x then b else if nat_lt b.0 a.0 then a else if nat_le a.1 b.1 then a else b) f
      ∙ ap (λ (x : Bool). if x then a else if nat_le a.1 b.1 then a else b) g ∙ ap (λ (x : Bool). if x then a else b) t))
      (let l = leb-false a.1 b.1 t in of_right (omega (arith, ge)) (λ e. omega (arith, l))))))

-- ---- after an entry

-- each of these groups has so many time-stamps more, and no other counts
pub peak_moved : (P Q : ℕ → Type 0) (groups after : List (List Cover)) (most least k : ℕ) → IsPeak P groups most least
    → ((id : ℕ) (g : List Cover) → slice_get groups id ≡ Some g → P (cohort_of g) → (h : List Cover) × (slice_get after id ≡ Some h) × Q (cohort_of h) × (length h ≡ length g + k))
    → ((id : ℕ) (h : List Cover) → slice_get after id ≡ Some h → Q (cohort_of h) → (g : List Cover) × (slice_get groups id ≡ Some g) × P (cohort_of g) × (length h ≡ length g + k))
    → IsPeak Q after (most + k) least
peak_moved P Q groups after most least k p forth back =
    let top = forth least p.group p.there p.named in
    let many = p.many in
    let top_many = top.3 in record {
      group = top.0;
      there = top.1;
      named = top.2;
      many = omega (arith, many, top_many);
      no_more = λ id h at is. (let was = back id h at is in let n = was.3 in let m = p.no_more id was.0 was.1 was.2 in omega (arith, n, m));
      first = λ id h at is same. (let was = back id h at is in let n = was.3 in p.first id was.0 was.1 was.2 (omega (arith, n, same)));
    }

-- a further time-stamp
module _ (n : ℕ) (alg : HashAlg) (token : List ℕ) (cohorts : List ℕ) where
  abbrev mark : List Cover → List Cover
  mark g = stamped_in (cover_at n false alg token) cohorts g

  mark_named : (g : List Cover) → is_in cohorts g ≡ true → (cohort_of (mark g) ≡ cohort_of g) × (length (mark g) ≡ length g + 1)
  mark_named g t =
      let c : Cover = cover_at n false alg token (place_of cohorts (cohort_of g)) in
      let is : mark g ≡ g ++ c ∷ [] = ap (λ (b : Bool). if b then g ++ c ∷ [] else g) t in
      (ap cohort_of is ∙ cohort_append 0 g (c ∷ []), ap (λ (l : List Cover). length l) is ∙ length-append g (c ∷ []))

  mark_cohort : (g : List Cover) → cohort_of (mark g) ≡ cohort_of g
  mark_cohort g =
      by_test (is_in cohorts g)
      (λ t. (mark_named g t).0)
      (λ f. ap (λ (b : Bool). cohort_of (if b then g ++ cover_at n false alg token (place_of cohorts (cohort_of g)) ∷ [] else g)) f)

  pub peak_stamped : (name : ℕ) (groups : List (List Cover)) (most least : ℕ) → IsPeak (λ c. name ≡ c) groups most least → has_name cohorts name ≡ true
      → IsPeak (λ c. name ≡ c) (map mark groups) (most + 1) least
  peak_stamped name groups most least p named =
      let in_ : (g : List Cover) → name ≡ cohort_of g → is_in cohorts g ≡ true = λ g e. sym (ap (has_name cohorts) e) ∙ named in
      peak_moved (λ c. name ≡ c) (λ c. name ≡ c) groups (map mark groups) most least 1 p
      (λ id g at e. (mark g, get_map mark groups id g at, e ∙ sym (mark_cohort g), (mark_named g (in_ g e)).1))
      (λ id h at e.
      let was = got_map mark groups id h at in
      let same : name ≡ cohort_of was.0 = e ∙ ap cohort_of was.2 ∙ mark_cohort was.0 in
      (was.0, was.1, same, ap (λ (l : List Cover). length l) was.2 ∙ (mark_named was.0 (in_ was.0 same)).1))

-- new trees
module _ (n : ℕ) (alg : HashAlg) (token : List ℕ) (cohorts : List ℕ) where
  abbrev grown : ℕ → List Cover → List Cover
  grown place g = if is_in cohorts g then g ++ cover_at n true alg token place ∷ [] else g

  abbrev renew : ℕ → List (List Cover) → List (List Cover)
  renew place groups = renewed_from (cover_at n true alg token) cohorts place groups

  head_is : (place : ℕ) (g : List Cover) (groups : List (List Cover)) → (p : ℕ) × (renew place (g ∷ groups) ≡ grown place g ∷ renew p groups)
  head_is place g groups =
      by_test (is_in cohorts g)
      (λ t. (
        place + 1,
        ap (λ (b : Bool). if b then (g ++ cover_at n true alg token place ∷ []) ∷ renew (place + 1) groups else g ∷ renew place groups) t
            ∙ sym (ap (λ (b : Bool). (if b then g ++ cover_at n true alg token place ∷ [] else g) ∷ renew (place + 1) groups) t),
      ))
      (λ f. (
        place,
        ap (λ (b : Bool). if b then (g ++ cover_at n true alg token place ∷ []) ∷ renew (place + 1) groups else g ∷ renew place groups) f
            ∙ sym (ap (λ (b : Bool). (if b then g ++ cover_at n true alg token place ∷ [] else g) ∷ renew place groups) f),
      ))

  pub get_renewed : (place id : ℕ) (groups : List (List Cover)) (g : List Cover) → slice_get groups id ≡ Some g → (p : ℕ) × (slice_get (renew place groups) id ≡ Some (grown p g))
  get_renewed place id [] g at = absurd (none_some g at)
  get_renewed place zero (x ∷ groups) g at =
      let h = head_is place x groups in
      (place, ap (λ (l : List (List Cover)). slice_get l 0) h.1 ∙ ap (λ (y : List Cover). Some (grown place y)) (some_is x g at))
  get_renewed place (suc id) (x ∷ groups) g at =
      let h = head_is place x groups in
      let rest = get_renewed h.0 id groups g at in
      (rest.0, ap (λ (l : List (List Cover)). slice_get l (suc id)) h.1 ∙ rest.1)

  pub got_renewed : (place id : ℕ) (groups : List (List Cover)) (h : List Cover) → slice_get (renew place groups) id ≡ Some h → (g : List Cover) × (slice_get groups id ≡ Some g) × ((p : ℕ) × (h ≡ grown p g))
  got_renewed place id [] h at = absurd (none_some h at)
  got_renewed place zero (x ∷ groups) h at =
      let e = head_is place x groups in
      (x, refl, (place, sym (some_is (grown place x) h (sym (ap (λ (l : List (List Cover)). slice_get l 0) e.1) ∙ at))))
  got_renewed place (suc id) (x ∷ groups) h at =
      let e = head_is place x groups in
      got_renewed e.0 id groups h (sym (ap (λ (l : List (List Cover)). slice_get l (suc id)) e.1) ∙ at)

  pub grown_named : (p : ℕ) (g : List Cover) → is_in cohorts g ≡ true → (cohort_of (grown p g) ≡ n) × (length (grown p g) ≡ length g + 1)
  grown_named p g t =
      let c : Cover = cover_at n true alg token p in
      let is : grown p g ≡ g ++ c ∷ [] = ap (λ (b : Bool). if b then g ++ c ∷ [] else g) t in
      (ap cohort_of is ∙ cohort_append 0 g (c ∷ []), ap (λ (l : List Cover). length l) is ∙ length-append g (c ∷ []))

  pub peak_renewed : (groups : List (List Cover)) (most least : ℕ) → AllByRecursion (λ (g : List Cover). cohort_of g < n) groups → IsPeak (λ c. has_name cohorts c ≡ true) groups most least
      → IsPeak (λ c. n ≡ c) (renew 0 groups) (most + 1) least
  peak_renewed groups most least below p =
      peak_moved (λ c. has_name cohorts c ≡ true) (λ c. n ≡ c) groups (renew 0 groups) most least 1 p
      (λ id g at t. let new = get_renewed 0 id groups g at in let is = grown_named new.0 g t in (grown new.0 g, new.1, sym is.0, is.1))
      (λ id h at e.
      let was = got_renewed 0 id groups h at in
      let place = was.2.0 in
      let low = all_at (λ (g : List Cover). cohort_of g < n) groups id was.0 below was.1 in
      by_test (is_in cohorts was.0)
      (λ t. let is = grown_named place was.0 t in (was.0, was.1, t, ap (λ (l : List Cover). length l) was.2.1 ∙ is.1))
      (λ f.
      let same : n ≡ cohort_of was.0 = e ∙ ap cohort_of was.2.1 ∙ ap (λ (b : Bool). cohort_of (if b then was.0 ++ cover_at n true alg token place ∷ [] else was.0)) f in
      absurd (omega (arith, same, low))))

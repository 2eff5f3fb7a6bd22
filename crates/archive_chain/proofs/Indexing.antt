-- Which groups stand in which rows, after each kind of entry.
use Rattle.std.proofs.Common.{◌≡◌, ℕ, zero, suc, ◌+◌, ◌<◌, ◌≤◌, ◌⊎◌, inl, inr, Bool, true, false, List, [], ◌∷◌, ◌++◌, length, map, Option, Some, None, refl, sym, ap, subst, ◌∙◌, arith}
use Rattle.std.specs.Prelude.{◌==◌, ◌||◌, slice_get, replicate, if◌then◌else◌}
use Rattle.std.specs.List.{AllByRecursion, range_with_len}
use Rattle.std.proofs.lemmas.Bool.{eqb-true, eq-eqb, ne_eqb}
use Rattle.archive_chain.specs.Kept.{has_name}
use Rattle.archive_chain.specs.InsideRows.{next_after}
use Rattle.archive_chain.proofs.RowsRenewing.{by_test}
use Rattle.archive_chain.specs.InsideIndex.{Bones, ids_by, IsLive, taken_bones, renamed, IsIndexed}
use Rattle.archive_chain.proofs.Growing.{all_append, all_weaker, all_copies}

-- ---- items of a list

pub none_some : {A : Type 0} (x : A) → ◌≡◌ {A = Option A} None (Some x) → ⊥
none_some x e = cc

pub some_is : {A : Type 0} (x y : A) → ◌≡◌ {A = Option A} (Some x) (Some y) → x ≡ y
some_is x y e = cc

-- an item of a longer list
pub get_end : {A : Type 0} (xs : List A) (y : A) (i : ℕ) (r : A) → slice_get (xs ++ y ∷ []) i ≡ Some r → (slice_get xs i ≡ Some r) ⊎ ((i ≡ length xs) × (r ≡ y))
get_end [] y zero r e = inr (refl, sym (some_is y r e))
get_end [] y (suc i) r e = absurd (none_some r e)
get_end (x ∷ xs) y zero r e = inl e
get_end (x ∷ xs) y (suc i) r e = more (get_end xs y i r e) where
  more : (slice_get xs i ≡ Some r) ⊎ ((i ≡ length xs) × (r ≡ y)) → (slice_get xs i ≡ Some r) ⊎ ((suc i ≡ length (x ∷ xs)) × (r ≡ y))
  more (inl h) = inl h
  more (inr h) = inr (ap suc h.0, h.1)

pub get_copies : (n x : ℕ) (xs : List ℕ) (i first : ℕ) → slice_get (xs ++ replicate n x) i ≡ Some first
    → (slice_get xs i ≡ Some first) ⊎ ((first ≡ x) × (length xs ≤ i) × (i < length xs + n))
get_copies zero x [] i first e = absurd (none_some first e)
get_copies (suc n) x [] zero first e = inr (sym (some_is x first e), omega arith, omega arith)
get_copies (suc n) x [] (suc i) first e = more (get_copies n x [] i first e) where
  more : (slice_get [] i ≡ Some first) ⊎ ((first ≡ x) × (0 ≤ i) × (i < 0 + n)) → (slice_get [] (suc i) ≡ Some first) ⊎ ((first ≡ x) × (0 ≤ suc i) × (suc i < 0 + suc n))
  more (inl h) = absurd (none_some first h)
  more (inr h) = let l = h.2 in inr (h.0, omega arith, omega (arith, l))
get_copies n x (y ∷ xs) zero first e = inl e
get_copies n x (y ∷ xs) (suc i) first e = more (get_copies n x xs i first e) where
  more : (slice_get xs i ≡ Some first) ⊎ ((first ≡ x) × (length xs ≤ i) × (i < length xs + n)) → (slice_get xs i ≡ Some first) ⊎ ((first ≡ x) × (length (y ∷ xs) ≤ suc i) × (suc i < length (y ∷ xs) + n))
  more (inl h) = inl h
  more (inr h) = let l = h.1 in let m = h.2 in inr (h.0, omega (arith, l), omega (arith, m))

pub got_within : {A : Type 0} (xs : List A) (i : ℕ) (x : A) → slice_get xs i ≡ Some x → i < length xs
got_within [] i x e = absurd (none_some x e)
got_within (y ∷ xs) zero x e = omega arith
got_within (y ∷ xs) (suc i) x e = let h = got_within xs i x e in omega (arith, h)

pub got_map : {A B : Type 0} (f : A → B) (xs : List A) (i : ℕ) (y : B) → slice_get (map f xs) i ≡ Some y → (x : A) × (slice_get xs i ≡ Some x) × (y ≡ f x)
got_map f [] i y e = absurd (none_some y e)
got_map f (x ∷ xs) zero y e = (x, refl, sym (some_is (f x) y e))
got_map f (x ∷ xs) (suc i) y e = got_map f xs i y e

pub all_at : {A : Type 0} (P : A → Type 0) (xs : List A) (i : ℕ) (x : A) → AllByRecursion P xs → slice_get xs i ≡ Some x → P x
all_at P [] i x all e = absurd (none_some x e)
all_at P (y ∷ xs) zero x all e = subst P (some_is y x e) all.0
all_at P (y ∷ xs) (suc i) x all e = all_at P xs i x all.1 e

-- ---- the groups of some cohorts

one_more : (names : List ℕ) (id c : ℕ) (cs : List ℕ) (b : Bool) → has_name names c ≡ b → ids_by names id (c ∷ cs) ≡ (if b then id ∷ ids_by names (id + 1) cs else ids_by names (id + 1) cs)
one_more names id c cs b e = ap (λ (t : Bool). if t then id ∷ ids_by names (id + 1) cs else ids_by names (id + 1) cs) e

-- only the tests count
pub same_tests : (names others : List ℕ) (f : ℕ → ℕ) (id : ℕ) (cs : List ℕ) → AllByRecursion (λ c. has_name others (f c) ≡ has_name names c) cs → ids_by others id (map f cs) ≡ ids_by names id cs
same_tests names others f id [] same = refl
same_tests names others f id (c ∷ cs) same =
    let rest = same_tests names others f (id + 1) cs same.1 in
    one_more others id (f c) (map f cs) (has_name names c) same.0 ∙ ap (λ (l : List ℕ). if has_name names c then id ∷ l else l) rest

pub ids_append : (names : List ℕ) (id : ℕ) (xs ys : List ℕ) → ids_by names id (xs ++ ys) ≡ ids_by names id xs ++ ids_by names (id + length xs) ys
ids_append names id [] ys = let e : id ≡ id + 0 = omega arith in ap (λ (n : ℕ). ids_by names n ys) e
ids_append names id (x ∷ xs) ys =
    let e : (id + 1) + length xs ≡ id + suc (length xs) = omega arith in
    let rest = ids_append names (id + 1) xs ys ∙ ap (λ (n : ℕ). ids_by names (id + 1) xs ++ ids_by names n ys) e in
    by_test (has_name names x)
    (λ t. one_more names id x (xs ++ ys) true t ∙ ap (λ (l : List ℕ). id ∷ l) rest ∙ sym (ap (λ (l : List ℕ). l ++ ids_by names (id + suc (length xs)) ys) (one_more names id x xs true t)))
    (λ t. one_more names id x (xs ++ ys) false t ∙ rest ∙ sym (ap (λ (l : List ℕ). l ++ ids_by names (id + suc (length xs)) ys) (one_more names id x xs false t)))

alone_other : (n c : ℕ) → (n ≡ c → ⊥) → has_name (n ∷ []) c ≡ false
alone_other n c apart = ap (λ (b : Bool). b || false) (ne_eqb n c apart)

alone_same : (n c : ℕ) → n ≡ c → has_name (n ∷ []) c ≡ true
alone_same n c same = ap (λ (b : Bool). b || false) (eq-eqb n c same)

none_new : (n id : ℕ) (cs : List ℕ) → AllByRecursion (λ c. c < n) cs → ids_by (n ∷ []) id cs ≡ []
none_new n id [] below = refl
none_new n id (c ∷ cs) below = one_more (n ∷ []) id c cs false (alone_other n c (λ e. let h = below.0 in omega (arith, e, h))) ∙ none_new n (id + 1) cs below.1

all_new : (n id count : ℕ) → ids_by (n ∷ []) id (replicate count n) ≡ range_with_len id count
all_new n id zero = refl
all_new n id (suc count) = one_more (n ∷ []) id n (replicate count n) true (alone_same n n refl) ∙ ap (λ (l : List ℕ). id ∷ l) (all_new n (id + 1) count)

none_other : (m n id count : ℕ) → (m ≡ n → ⊥) → ids_by (m ∷ []) id (replicate count n) ≡ []
none_other m n id zero apart = refl
none_other m n id (suc count) apart = one_more (m ∷ []) id n (replicate count n) false (alone_other m n apart) ∙ none_other m n (id + 1) count apart

nil_end : (xs : List ℕ) → xs ++ [] ≡ xs
nil_end [] = refl
nil_end (x ∷ xs) = ap (λ (l : List ℕ). x ∷ l) (nil_end xs)

-- ---- a Seal

in_run : (begin count id : ℕ) → begin ≤ id → id < begin + count → has_name (range_with_len begin count) id ≡ true
in_run begin zero id low high = absurd (omega (arith, low, high))
in_run begin (suc count) id low high =
    by_test (begin == id)
    (λ e. ap (λ (b : Bool). b || has_name (range_with_len (begin + 1) count) id) e)
    (λ e.
    let apart : begin ≡ id → ⊥ = λ same. let t = sym (eq-eqb begin id same) ∙ e in cc in
    ap (λ (b : Bool). b || has_name (range_with_len (begin + 1) count) id) e ∙ in_run (begin + 1) count id (omega (arith, low, apart)) (omega (arith, high)))

pub seal_indexed : (table : List Bones) (firsts cohorts : List ℕ) (n count : ℕ) (new : Bones) → IsIndexed table firsts cohorts n → length cohorts ≡ length firsts
    → AllByRecursion (λ (b : Bones). b.stamp < n) table → AllByRecursion (λ f. f < length table) firsts → ((p w : ℕ) (b : Bones) → slice_get table p ≡ Some b → b.next ≡ Some w → w < length table)
    → new.stamp ≡ n → new.members ≡ range_with_len (length firsts) count → new.next ≡ None
    → IsIndexed (table ++ new ∷ []) (firsts ++ replicate count (length table)) (cohorts ++ replicate count n) (n + 1)
seal_indexed table firsts cohorts n count new old long stamps starts within stamp members open_ = record {
  below = all_append (λ c. c < n + 1) cohorts (replicate count n) (all_weaker (λ c. c < n) (λ c. c < n + 1) cohorts (λ c h. omega (arith, h)) old.below) (all_copies (λ c. c < n + 1) count n (omega arith));
  live = all_append (IsLive (cohorts ++ replicate count n)) table (new ∷ []) (each table stamps old.live) (
    λ none.
        members ∙ sym (ids_append (new.stamp ∷ []) 0 cohorts (replicate count n) ∙ (λ i. ids_by (stamp i ∷ []) 0 cohorts ++ ids_by (stamp i ∷ []) (0 + length cohorts) (replicate count n))
        ∙ (λ i. none_new n 0 cohorts old.below i ++ all_new n (0 + length cohorts) count i) ∙ ap (λ (m : ℕ). range_with_len m count) start),
    tt,
  );
  seals = seals;
  nexts = nexts;
} where
  start : 0 + length cohorts ≡ length firsts
  start = omega (arith, long)

  each : (rows : List Bones) → AllByRecursion (λ (b : Bones). b.stamp < n) rows → AllByRecursion (IsLive cohorts) rows → AllByRecursion (IsLive (cohorts ++ replicate count n)) rows
  each [] low live = tt
  each (b ∷ rows) low live = (
    (λ none. live.0 none ∙ sym (ids_append (b.stamp ∷ []) 0 cohorts (replicate count n)
        ∙ ap (λ (l : List ℕ). ids_by (b.stamp ∷ []) 0 cohorts ++ l) (none_other b.stamp n (0 + length cohorts) count (λ e. let h = low.0 in omega (arith, e, h))) ∙ nil_end (ids_by (b.stamp ∷ []) 0 cohorts))),
    each rows low.1 live.1,
  )

  seals : (id first : ℕ) (b : Bones) → slice_get (firsts ++ replicate count (length table)) id ≡ Some first → slice_get (table ++ new ∷ []) first ≡ Some b → has_name b.members id ≡ true
  seals id first b f t = cases (get_copies count (length table) firsts id first f) (get_end table new first b t) where
    cases : (slice_get firsts id ≡ Some first) ⊎ ((first ≡ length table) × (length firsts ≤ id) × (id < length firsts + count)) → (slice_get table first ≡ Some b) ⊎ ((first ≡ length table) × (b ≡ new)) → has_name b.members id ≡ true
    cases (inl p) (inl q) = old.seals id first b p q
    cases (inl p) (inr q) = absurd (let h = all_at (λ f. f < length table) firsts id first starts p in let e = q.0 in omega (arith, h, e))
    cases (inr p) (inl q) = absurd (let h = got_within table first b q in let e = p.0 in omega (arith, h, e))
    cases (inr p) (inr q) = ap (λ (x : Bones). has_name x.members id) q.1 ∙ ap (λ (l : List ℕ). has_name l id) members ∙ in_run (length firsts) count id p.1 p.2

  nexts : (p w : ℕ) (b after : Bones) → slice_get (table ++ new ∷ []) p ≡ Some b → b.next ≡ Some w → slice_get (table ++ new ∷ []) w ≡ Some after → (id : ℕ) → has_name b.members id ≡ true → has_name after.members id ≡ true
  nexts p w b after t goes u id h = cases (get_end table new p b t) (get_end table new w after u) where
    cases : (slice_get table p ≡ Some b) ⊎ ((p ≡ length table) × (b ≡ new)) → (slice_get table w ≡ Some after) ⊎ ((w ≡ length table) × (after ≡ new)) → has_name after.members id ≡ true
    cases (inl q) (inl r) = old.nexts p w b after q goes r id h
    cases (inl q) (inr r) = absurd (let l = within p w b q goes in let e = r.0 in omega (arith, l, e))
    cases (inr q) r = absurd (none_some w (sym (ap (λ (x : Bones). x.next) q.1 ∙ open_) ∙ goes))

-- ---- new trees

pub no_next : (named : List ℕ) (m s : ℕ) (o : Option ℕ) → next_after named m s o ≡ None → (o ≡ None) × (has_name named s ≡ false)
no_next named m s (Some w) e = absurd (none_some w (sym e))
no_next named m s None e =
    by_test (has_name named s)
    (λ t. absurd (none_some m (sym e ∙ ap (λ (b : Bool). if b then Some m else None) t)))
    (λ f. (refl, f))

some_next : (named : List ℕ) (m s w : ℕ) (o : Option ℕ) → next_after named m s o ≡ Some w → (o ≡ Some w) ⊎ ((o ≡ None) × (has_name named s ≡ true) × (w ≡ m))
some_next named m s w (Some v) e = inl e
some_next named m s w None e =
    by_test (has_name named s)
    (λ t. inr (refl, t, some_is w m (sym e ∙ ap (λ (b : Bool). if b then Some m else None) t)))
    (λ f. absurd (none_some w (sym (ap (λ (b : Bool). if b then Some m else None) f) ∙ e)))

wider_step : (xs ys : List ℕ) (base id c : ℕ) (cs : List ℕ) (s t : Bool) → has_name xs c ≡ s → has_name ys c ≡ t → (s ≡ true → t ≡ true)
    → (has_name (ids_by xs (base + 1) cs) id ≡ true → has_name (ids_by ys (base + 1) cs) id ≡ true)
    → has_name (if s then base ∷ ids_by xs (base + 1) cs else ids_by xs (base + 1) cs) id ≡ true → has_name (if t then base ∷ ids_by ys (base + 1) cs else ids_by ys (base + 1) cs) id ≡ true
wider_step xs ys base id c cs true true p q f rest h =
    by_test (base == id)
    (λ e. ap (λ (b : Bool). b || has_name (ids_by ys (base + 1) cs) id) e)
    (λ e. ap (λ (b : Bool). b || has_name (ids_by ys (base + 1) cs) id) e ∙ rest (sym (ap (λ (b : Bool). b || has_name (ids_by xs (base + 1) cs) id) e) ∙ h))
wider_step xs ys base id c cs true false p q f rest h = absurd (let e = f refl in cc)
wider_step xs ys base id c cs false true p q f rest h =
    by_test (base == id)
    (λ e. ap (λ (b : Bool). b || has_name (ids_by ys (base + 1) cs) id) e)
    (λ e. ap (λ (b : Bool). b || has_name (ids_by ys (base + 1) cs) id) e ∙ rest h)
wider_step xs ys base id c cs false false p q f rest h = rest h

wider : (xs ys : List ℕ) (base id : ℕ) (cs : List ℕ) → ((c : ℕ) → has_name xs c ≡ true → has_name ys c ≡ true) → has_name (ids_by xs base cs) id ≡ true → has_name (ids_by ys base cs) id ≡ true
wider xs ys base id [] f h = h
wider xs ys base id (c ∷ cs) f h = wider_step xs ys base id c cs (has_name xs c) (has_name ys c) refl refl (f c) (wider xs ys (base + 1) id cs f) h

new_name : (named : List ℕ) (n c : ℕ) → c < n → has_name (n ∷ []) (renamed named n c) ≡ has_name named c
new_name named n c less =
    by_test (has_name named c)
    (λ t. ap (λ (b : Bool). has_name (n ∷ []) (if b then n else c)) t ∙ alone_same n n refl ∙ sym t)
    (λ f. ap (λ (b : Bool). has_name (n ∷ []) (if b then n else c)) f ∙ alone_other n c (λ e. omega (arith, e, less)) ∙ sym f)

old_name : (named : List ℕ) (n s c : ℕ) → s < n → has_name named s ≡ false → has_name (s ∷ []) (renamed named n c) ≡ has_name (s ∷ []) c
old_name named n s c less not_named =
    by_test (has_name named c)
    (λ t.
    let apart : s ≡ c → ⊥ = λ e. let no = sym not_named ∙ ap (has_name named) e ∙ t in cc in
    ap (λ (b : Bool). has_name (s ∷ []) (if b then n else c)) t ∙ alone_other s n (λ e. omega (arith, e, less)) ∙ sym (alone_other s c apart))
    (λ f. ap (λ (b : Bool). has_name (s ∷ []) (if b then n else c)) f)

all_tests : (P Q : ℕ → Type 0) (cs : List ℕ) → ((c : ℕ) → P c → Q c) → AllByRecursion P cs → AllByRecursion Q cs
all_tests P Q cs f h = all_weaker P Q cs f h

renamed_below : (named : List ℕ) (n : ℕ) (cs : List ℕ) → AllByRecursion (λ c. c < n) cs → AllByRecursion (λ c. c < n + 1) (map (renamed named n) cs)
renamed_below named n [] h = tt
renamed_below named n (c ∷ cs) h = (
  by_test (has_name named c)
      (λ t. subst (λ (b : Bool). (if b then n else c) < n + 1) (sym t) (omega arith))
      (λ f. subst (λ (b : Bool). (if b then n else c) < n + 1) (sym f) (let l = h.0 in omega (arith, l))),
  renamed_below named n cs h.1,
)

length_map : {A B : Type 0} (f : A → B) (xs : List A) → length (map f xs) ≡ length xs
length_map f [] = refl
length_map f (x ∷ xs) = ap suc (length_map f xs)

pub trees_indexed : (table : List Bones) (firsts cohorts named : List ℕ) (n : ℕ) (new : Bones) → IsIndexed table firsts cohorts n
    → AllByRecursion (λ (b : Bones). b.stamp < n) table → AllByRecursion (λ f. f < length table) firsts → ((p w : ℕ) (b : Bones) → slice_get table p ≡ Some b → b.next ≡ Some w → w < length table)
    → new.stamp ≡ n → new.members ≡ ids_by named 0 cohorts → new.next ≡ None
    → IsIndexed (map (taken_bones named (length table)) table ++ new ∷ []) firsts (map (renamed named n) cohorts) (n + 1)
trees_indexed table firsts cohorts named n new old stamps starts within stamp members open_ = record {
  below = renamed_below named n cohorts old.below;
  live = all_append (IsLive (map (renamed named n) cohorts)) (map (taken_bones named (length table)) table) (new ∷ []) (each table stamps old.live) (
    λ none.
        members ∙ sym (ap (λ (s : ℕ). ids_by (s ∷ []) 0 (map (renamed named n) cohorts)) stamp
        ∙ same_tests named (n ∷ []) (renamed named n) 0 cohorts (all_weaker (λ c. c < n) (λ c. has_name (n ∷ []) (renamed named n c) ≡ has_name named c) cohorts (λ c h. new_name named n c h) old.below)),
    tt,
  );
  seals = seals;
  nexts = nexts;
} where
  each : (rows : List Bones) → AllByRecursion (λ (b : Bones). b.stamp < n) rows → AllByRecursion (IsLive cohorts) rows → AllByRecursion (IsLive (map (renamed named n) cohorts)) (map (taken_bones named (length table)) rows)
  each [] low live = tt
  each (b ∷ rows) low live = (
    (λ none.
        let was = no_next named (length table) b.stamp b.next none in
        live.0 was.0 ∙ sym (same_tests (b.stamp ∷ []) (b.stamp ∷ []) (renamed named n) 0 cohorts
        (all_weaker (λ c. c < n) (λ c. has_name (b.stamp ∷ []) (renamed named n c) ≡ has_name (b.stamp ∷ []) c) cohorts (λ c h. old_name named n b.stamp c low.0 was.1) old.below))),
    each rows low.1 live.1,
  )

  count : length (map (taken_bones named (length table)) table) ≡ length table
  count = length_map (taken_bones named (length table)) table

  seals : (id first : ℕ) (b : Bones) → slice_get firsts id ≡ Some first → slice_get (map (taken_bones named (length table)) table ++ new ∷ []) first ≡ Some b → has_name b.members id ≡ true
  seals id first b f t = cases (get_end (map (taken_bones named (length table)) table) new first b t) where
    cases : (slice_get (map (taken_bones named (length table)) table) first ≡ Some b) ⊎ ((first ≡ length (map (taken_bones named (length table)) table)) × (b ≡ new)) → has_name b.members id ≡ true
    cases (inl q) = let was = got_map (taken_bones named (length table)) table first b q in ap (λ (x : Bones). has_name x.members id) was.2 ∙ old.seals id first was.0 f was.1
    cases (inr q) = absurd (let h = all_at (λ x. x < length table) firsts id first starts f in let e = q.0 in omega (arith, h, e, count))

  nexts : (p w : ℕ) (b after : Bones) → slice_get (map (taken_bones named (length table)) table ++ new ∷ []) p ≡ Some b → b.next ≡ Some w → slice_get (map (taken_bones named (length table)) table ++ new ∷ []) w ≡ Some after
      → (id : ℕ) → has_name b.members id ≡ true → has_name after.members id ≡ true
  nexts p w b after t goes u id h = cases (get_end (map (taken_bones named (length table)) table) new p b t) where
    from : (was : Bones) → slice_get table p ≡ Some was → b ≡ taken_bones named (length table) was → has_name after.members id ≡ true
    from was at is = how (some_next named (length table) was.stamp w was.next (sym (ap (λ (x : Bones). x.next) is) ∙ goes)) where
      held : has_name was.members id ≡ true
      held = sym (ap (λ (x : Bones). has_name x.members id) is) ∙ h

      how : (was.next ≡ Some w) ⊎ ((was.next ≡ None) × (has_name named was.stamp ≡ true) × (w ≡ length table)) → has_name after.members id ≡ true
      how (inl same) = to (get_end (map (taken_bones named (length table)) table) new w after u) where
        to : (slice_get (map (taken_bones named (length table)) table) w ≡ Some after) ⊎ ((w ≡ length (map (taken_bones named (length table)) table)) × (after ≡ new)) → has_name after.members id ≡ true
        to (inl q) = let next = got_map (taken_bones named (length table)) table w after q in ap (λ (x : Bones). has_name x.members id) next.2 ∙ old.nexts p w was next.0 at same next.1 id held
        to (inr q) = absurd (let l = within p w was at same in let e = q.0 in omega (arith, l, e, count))
      how (inr here) = to (get_end (map (taken_bones named (length table)) table) new w after u) where
        inside : has_name (ids_by (was.stamp ∷ []) 0 cohorts) id ≡ true
        inside = sym (ap (λ (l : List ℕ). has_name l id) (all_at (IsLive cohorts) table p was old.live at here.0)) ∙ held

        to : (slice_get (map (taken_bones named (length table)) table) w ≡ Some after) ⊎ ((w ≡ length (map (taken_bones named (length table)) table)) × (after ≡ new)) → has_name after.members id ≡ true
        to (inl q) = absurd (let l = got_within (map (taken_bones named (length table)) table) w after q in let e = here.2 in omega (arith, l, e, count))
        to (inr q) =
            ap (λ (x : Bones). has_name x.members id) q.1 ∙ ap (λ (l : List ℕ). has_name l id) members
            ∙ wider (was.stamp ∷ []) named 0 id cohorts (λ c yes. by_test (was.stamp == c)
            (λ e. sym (ap (has_name named) (eqb-true was.stamp c e)) ∙ here.1)
            (λ e. absurd (let no = sym (ap (λ (b : Bool). b || false) e) ∙ yes in cc))) inside

    cases : (slice_get (map (taken_bones named (length table)) table) p ≡ Some b) ⊎ ((p ≡ length (map (taken_bones named (length table)) table)) × (b ≡ new)) → has_name after.members id ≡ true
    cases (inl q) = let was = got_map (taken_bones named (length table)) table p b q in from was.0 was.1 was.2
    cases (inr q) = absurd (none_some w (sym (ap (λ (x : Bones). x.next) q.1 ∙ open_) ∙ goes))

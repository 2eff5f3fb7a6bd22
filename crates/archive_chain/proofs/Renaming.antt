-- The names of the cohorts and their rows after new trees: those that stay, and behind them the new one.
use Rattle.std.proofs.Common.{◌≡◌, ℕ, ◌<◌, Bool, true, false, List, [], ◌∷◌, ◌++◌, length, map, Some, None, refl, sym, ap, subst, ◌∙◌, arith, append-nil}
use Rattle.std.specs.Prelude.{◌==◌, ◌||◌, nat_lt, slice_get, if◌then◌else◌}
use Rattle.std.specs.List.{AllByRecursion, list_any}
use Rattle.std.proofs.lemmas.Bool.{eq-eqb, eqb-true, lt-ltb, ltb-true, ltb-false}
use Rattle.std.proofs.lemmas.List.{length-map}
use Rattle.archive_chain.specs.Kept.{has_name, with_name}
use Rattle.archive_chain.specs.InsideRows.{next_after}
use Rattle.archive_chain.specs.InsideTable.{Rises}
use Rattle.archive_chain.specs.InsideIndex.{Bones, taken_bones, renamed}
use Rattle.archive_chain.specs.InsideListed.{names_by, IsOpen, AreOpen, IsListed}
use Rattle.archive_chain.specs.InsidePieces.{staying}
use Rattle.archive_chain.proofs.RowsRenewing.{by_test}
use Rattle.archive_chain.proofs.Walking.{get_map}
use Rattle.archive_chain.proofs.Listing.{names_rise, name_last, get_more, get_new}

-- ---- one name more

-- three cases of where it comes to stand
by_place : {G : Type 0} (name other : ℕ) → (nat_lt name other ≡ true → G) → (nat_lt name other ≡ false → name ≡ other → (name == other) ≡ true → G) → (nat_lt name other ≡ false → other < name → (name == other) ≡ false → G) → G
by_place name other first same later =
    by_test (nat_lt name other) first
    (λ f.
    by_test (name == other)
    (λ t. same f (eqb-true name other t) t)
    (λ g. let le = ltb-false name other f in
    let apart : name ≡ other → ⊥ = λ e. let t = sym (eq-eqb name other e) ∙ g in cc in
    later f (omega (arith, le, apart)) g))

module _ (name other : ℕ) (names : List ℕ) where
  abbrev put : Bool → Bool → List ℕ
  put less same = if less then name ∷ other ∷ names else if same then other ∷ names else other ∷ with_name name names

  with_first : nat_lt name other ≡ true → with_name name (other ∷ names) ≡ name ∷ other ∷ names
  with_first p = ap (λ (b : Bool). put b (name == other)) p

  with_same : nat_lt name other ≡ false → (name == other) ≡ true → with_name name (other ∷ names) ≡ other ∷ names
  with_same p q = ap (λ (b : Bool). put b (name == other)) p ∙ ap (put false) q

  with_later : nat_lt name other ≡ false → (name == other) ≡ false → with_name name (other ∷ names) ≡ other ∷ with_name name names
  with_later p q = ap (λ (b : Bool). put b (name == other)) p ∙ ap (put false) q

-- before all others
with_least : (name : ℕ) (names : List ℕ) → AllByRecursion (λ y. name < y) names → with_name name names ≡ name ∷ names
with_least name [] above = refl
with_least name (other ∷ names) above = with_first name other names (lt-ltb name other above.0)

-- behind all others
with_most : (n : ℕ) (names : List ℕ) → AllByRecursion (λ y. y < n) names → with_name n names ≡ names ++ n ∷ []
with_most n [] below = refl
with_most n (other ∷ names) below =
    by_place n other
    (λ p. absurd (let less = ltb-true n other p in let low = below.0 in omega (arith, less, low)))
    (λ p e q. absurd (let low = below.0 in omega (arith, e, low)))
    (λ p less q. with_later n other names p q ∙ ap (λ (l : List ℕ). other ∷ l) (with_most n names below.1))

-- where it stands last already
with_again : (n : ℕ) (names : List ℕ) → AllByRecursion (λ y. y < n) names → with_name n (names ++ n ∷ []) ≡ names ++ n ∷ []
with_again n [] below =
    by_place n n
    (λ p. absurd (let less = ltb-true n n p in omega (arith, less)))
    (λ p e q. with_same n n [] p q)
    (λ p less q. absurd (omega (arith, less)))
with_again n (other ∷ names) below =
    by_place n other
    (λ p. absurd (let less = ltb-true n other p in let low = below.0 in omega (arith, less, low)))
    (λ p e q. absurd (let low = below.0 in omega (arith, e, low)))
    (λ p less q. with_later n other (names ++ n ∷ []) p q ∙ ap (λ (l : List ℕ). other ∷ l) (with_again n names below.1))

-- ---- the names that stay

module _ (cohorts : List ℕ) where
  abbrev left : List ℕ → List ℕ
  left names = staying cohorts names names

  left_out : (name : ℕ) (names : List ℕ) → has_name cohorts name ≡ true → left (name ∷ names) ≡ left names
  left_out name names h = ap (λ (b : Bool). if b then left names else name ∷ left names) h

  left_in : (name : ℕ) (names : List ℕ) → has_name cohorts name ≡ false → left (name ∷ names) ≡ name ∷ left names
  left_in name names h = ap (λ (b : Bool). if b then left names else name ∷ left names) h

  all_left : (P : ℕ → Type 0) (names : List ℕ) → AllByRecursion P names → AllByRecursion P (left names)
  all_left P [] h = tt
  all_left P (name ∷ names) h =
      by_test (has_name cohorts name)
      (λ t. subst (AllByRecursion P) (sym (left_out name names t)) (all_left P names h.1))
      (λ f. subst (AllByRecursion P) (sym (left_in name names f)) (h.0, all_left P names h.1))

  -- a name that goes changes nothing
  goes : (name : ℕ) (names : List ℕ) → has_name cohorts name ≡ true → left (with_name name names) ≡ left names
  goes name [] h = left_out name [] h
  goes name (other ∷ names) h =
      by_place name other
      (λ p. ap left (with_first name other names p) ∙ left_out name (other ∷ names) h)
      (λ p e q. ap left (with_same name other names p q))
      (λ p less q.
      ap left (with_later name other names p q)
      ∙ ap (λ (l : List ℕ). if has_name cohorts other then l else other ∷ l) (goes name names h))

  over : (low high : ℕ) (names : List ℕ) → low < high → AllByRecursion (λ y. high < y) names → AllByRecursion (λ y. low < y) names
  over low high [] less all = tt
  over low high (x ∷ names) less all = (let h = all.0 in omega (arith, less, h), over low high names less all.1)

  -- a name that stays comes to stand at its place
  stays : (name : ℕ) (names : List ℕ) → has_name cohorts name ≡ false → Rises names → left (with_name name names) ≡ with_name name (left names)
  stays name [] h up = left_in name [] h
  stays name (other ∷ names) h up =
      by_place name other
      (λ p.
      let less = ltb-true name other p in
      ap left (with_first name other names p) ∙ left_in name (other ∷ names) h
      ∙ sym (with_least name (left (other ∷ names)) (all_left (λ y. name < y) (other ∷ names) (less, over name other names less up.0))))
      (λ p e q.
      let there : has_name cohorts other ≡ false = sym (ap (has_name cohorts) e) ∙ h in
      ap left (with_same name other names p q) ∙ left_in other names there
      ∙ sym (ap (with_name name) (left_in other names there) ∙ with_same name other (left names) p q))
      (λ p less q.
      ap left (with_later name other names p q)
      ∙ by_test (has_name cohorts other)
      (λ t. left_out other (with_name name names) t ∙ stays name names h up.1 ∙ sym (ap (with_name name) (left_out other names t)))
      (λ f.
      left_in other (with_name name names) f ∙ ap (λ (l : List ℕ). other ∷ l) (stays name names h up.1)
      ∙ sym (ap (with_name name) (left_in other names f) ∙ with_later name other (left names) p q)))

  -- ---- the names of all cohorts

  abbrev end : ℕ → Bool → List ℕ
  end n true = n ∷ []
  end n false = []

  name_below : (n name : ℕ) (names : List ℕ) → name < n → AllByRecursion (λ y. y < n) names → AllByRecursion (λ y. y < n) (with_name name names)
  name_below n name [] less below = (less, tt)
  name_below n name (other ∷ names) less below =
      by_place name other
      (λ p. subst (AllByRecursion (λ y. y < n)) (sym (with_first name other names p)) (less, below))
      (λ p e q. subst (AllByRecursion (λ y. y < n)) (sym (with_same name other names p q)) below)
      (λ p l q. subst (AllByRecursion (λ y. y < n)) (sym (with_later name other names p q)) (below.0, name_below n name names less below.1))

  names_below : (n : ℕ) (all : List ℕ) → AllByRecursion (λ c. c < n) all → AllByRecursion (λ y. y < n) (names_by all)
  names_below n [] below = tt
  names_below n (c ∷ all) below = name_below n c (names_by all) below.0 (names_below n all below.1)

  new_name : (n : ℕ) (b : Bool) (names : List ℕ) → AllByRecursion (λ y. y < n) names → with_name n (names ++ end n b) ≡ names ++ n ∷ []
  new_name n true names below = with_again n names below
  new_name n false names below = ap (with_name n) (append-nil names) ∙ with_most n names below

  old_name : (name n : ℕ) (b : Bool) (names : List ℕ) → name < n → with_name name (names ++ end n b) ≡ with_name name names ++ end n b
  old_name name n true names less = name_last name n names less
  old_name name n false names less = ap (with_name name) (append-nil names) ∙ sym (append-nil (with_name name names))

  renamed_in : (n c : ℕ) → has_name cohorts c ≡ true → renamed cohorts n c ≡ n
  renamed_in n c h = ap (λ (b : Bool). if b then n else c) h

  renamed_out : (n c : ℕ) → has_name cohorts c ≡ false → renamed cohorts n c ≡ c
  renamed_out n c h = ap (λ (b : Bool). if b then n else c) h

  abbrev any : List ℕ → Bool
  any all = list_any (has_name cohorts) all

  names_renamed : (n : ℕ) (all : List ℕ) → AllByRecursion (λ c. c < n) all → names_by (map (renamed cohorts n) all) ≡ left (names_by all) ++ end n (any all)
  names_renamed n [] below = refl
  names_renamed n (c ∷ all) below =
      let rest = names_renamed n all below.1 in
      by_test (has_name cohorts c)
      (λ t.
      (λ i. with_name (renamed_in n c t i) (rest i))
      ∙ new_name n (any all) (left (names_by all)) (all_left (λ y. y < n) (names_by all) (names_below n all below.1))
      ∙ sym ((λ i. goes c (names_by all) t i ++ end n (t i || any all))))
      (λ f.
      (λ i. with_name (renamed_out n c f i) (rest i))
      ∙ old_name c n (any all) (left (names_by all)) below.0
      ∙ sym ((λ i. stays c (names_by all) f (names_rise all) i ++ end n (f i || any all))))

  -- ---- their rows

  open_stays : (m : ℕ) (table : List Bones) (new : Bones) (place name : ℕ) → has_name cohorts name ≡ false → IsOpen table place name → IsOpen (map (taken_bones cohorts m) table ++ new ∷ []) place name
  open_stays m table new place name h o = record {
    bones = taken_bones cohorts m o.bones;
    there = get_more (map (taken_bones cohorts m) table) new place (taken_bones cohorts m o.bones) (get_map (taken_bones cohorts m) table place o.bones o.there);
    stamp = o.stamp;
    open_ = ap (next_after cohorts m o.bones.stamp) o.open_ ∙ ap (λ (b : Bool). if b then Some m else None) (ap (has_name cohorts) o.stamp ∙ h);
  }

  open_left : (m : ℕ) (table : List Bones) (new : Bones) (live names : List ℕ) → AreOpen table live names
      → AreOpen (map (taken_bones cohorts m) table ++ new ∷ []) (staying cohorts names live) (left names)
  open_left m table new [] [] o = tt
  open_left m table new [] (name ∷ names) o = absurd o
  open_left m table new (place ∷ live) [] o = absurd o
  open_left m table new (place ∷ live) (name ∷ names) o =
      let rest = open_left m table new live names o.1 in
      let after : List Bones = map (taken_bones cohorts m) table ++ new ∷ [] in
      by_test (has_name cohorts name)
      (λ t. subst (λ (b : Bool). AreOpen after (if b then staying cohorts names live else place ∷ staying cohorts names live) (if b then left names else name ∷ left names)) (sym t) rest)
      (λ f. subst (λ (b : Bool). AreOpen after (if b then staying cohorts names live else place ∷ staying cohorts names live) (if b then left names else name ∷ left names)) (sym f) (open_stays m table new place name f o.0, rest))

  open_end : (table : List Bones) (live names : List ℕ) (place name : ℕ) → AreOpen table live names → IsOpen table place name → AreOpen table (live ++ place ∷ []) (names ++ name ∷ [])
  open_end table [] [] place name all o = (o, tt)
  open_end table [] (n ∷ names) place name all o = absurd all
  open_end table (p ∷ live) [] place name all o = absurd all
  open_end table (p ∷ live) (n ∷ names) place name all o = (all.0, open_end table live names place name all.1 o)

  pub trees_listed : (table : List Bones) (all names live : List ℕ) (n : ℕ) (new : Bones) → IsListed table all names live → AllByRecursion (λ c. c < n) all → any all ≡ true → new.stamp ≡ n → new.next ≡ None
      → IsListed (map (taken_bones cohorts (length table)) table ++ new ∷ []) (map (renamed cohorts n) all) (staying cohorts names names ++ n ∷ []) (staying cohorts names live ++ length table ∷ [])
  trees_listed table all names live n new old below some stamp none = record {
    names_are = (λ i. left (old.names_are i) ++ n ∷ []) ∙ sym (names_renamed n all below ∙ ap (λ (b : Bool). left (names_by all) ++ end n b) some);
    are_open = open_end after (staying cohorts names live) (staying cohorts names names) (length table) n (open_left (length table) table new live names old.are_open) (record {
      bones = new;
      there = subst (λ (m : ℕ). slice_get after m ≡ Some new) (length-map table (taken_bones cohorts (length table))) (get_new (map (taken_bones cohorts (length table)) table) new);
      stamp = stamp;
      open_ = none;
    });
  } where
    after : List Bones
    after = map (taken_bones cohorts (length table)) table ++ new ∷ []

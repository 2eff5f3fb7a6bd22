-- The rows of some cohorts, changed one by one, are all rows with the named ones changed.
use Rattle.std.proofs.Common.{◌≡◌, ℕ, zero, suc, ◌+◌, ◌<◌, Bool, true, false, List, [], ◌∷◌, ◌++◌, map, Option, Some, None, refl, sym, ap, subst, ◌∙◌, arith}
use Rattle.std.specs.Prelude.{◌==◌, ◌||◌, slice_get, if◌then◌else◌}
use Rattle.std.specs.List.{AllByRecursion}
use Rattle.std.proofs.lemmas.Bool.{eq-eqb, ne_eqb}
use Rattle.archive_chain.specs.Kept.{Cover, has_name, place_of}
use Rattle.archive_chain.specs.InsideRows.{Row as Chain, next_after, taken, later_after, most_after, stamped}
use Rattle.archive_chain.specs.declared.row.Row.{Row}
use Rattle.archive_chain.specs.declared.row.Longer.{Longer}
use Rattle.archive_chain.specs.InsideTable.{Stamps, change, leads_to, led, with_later, lengthened, later_seen, row_seen, rows_seen, RowsAscend}
use Rattle.archive_chain.proofs.Named.{IsNamed, AreNamed, IsLonger, AreLonger}

-- ---- one row

pub map_change : {A B : Type 0} (see : A → B) (f : A → A) (g : B → B) (p : ℕ) (xs : List A) → ((x : A) → see (f x) ≡ g (see x)) → map see (change f p xs) ≡ change g p (map see xs)
map_change see f g p [] same = refl
map_change see f g zero (x ∷ xs) same = ap (λ y. y ∷ map see xs) (same x)
map_change see f g (suc p) (x ∷ xs) same = ap (λ ys. see x ∷ ys) (map_change see f g p xs same)

module _ (F G : Chain → Chain) (act : Chain → Chain) (name : ℕ) (others : (r : Chain) → (r.entry ≡ name → ⊥) → F r ≡ G r) where
  all_others : (rows : List Chain) → AllByRecursion (λ (r : Chain). name < r.entry) rows → map F rows ≡ map G rows
  all_others [] above = refl
  all_others (r ∷ rows) above =
      let this : F r ≡ G r = others r (λ e. let h = above.0 in omega (arith, e, h)) in
      (λ i. this i ∷ all_others rows above.1 i)

  below : (low p : ℕ) (rows : List Chain) (row : Chain) → AllByRecursion (λ (r : Chain). low < r.entry) rows → slice_get rows p ≡ Some row → low < row.entry
  below low p [] row above e = absurd (none row e) where
    none : (x : Chain) → ◌≡◌ {A = Option Chain} None (Some x) → ⊥
    none x e = cc
  below low zero (r ∷ rows) row above e = let same : r ≡ row = cc in subst (λ (x : Chain). low < x.entry) same above.0
  below low (suc p) (r ∷ rows) row above e = below low p rows row above.1 e

  pub change_one : (p : ℕ) (rows : List Chain) (row : Chain) → RowsAscend rows → slice_get rows p ≡ Some row → row.entry ≡ name → act (F row) ≡ G row → change act p (map F rows) ≡ map G rows
  change_one p [] row up e named here = absurd (none row e) where
    none : (x : Chain) → ◌≡◌ {A = Option Chain} None (Some x) → ⊥
    none x e = cc
  change_one zero (r ∷ rows) row up e named here =
      let same : r ≡ row = cc in
      let this : act (F r) ≡ G r = subst (λ (x : Chain). act (F x) ≡ G x) (sym same) here in
      let first : r.entry ≡ name = ap (λ (x : Chain). x.entry) same ∙ named in
      let rest = all_others rows (subst (λ (n : ℕ). AllByRecursion (λ (x : Chain). n < x.entry) rows) first up.0) in
      (λ i. this i ∷ rest i)
  change_one (suc p) (r ∷ rows) row up e named here =
      let less : r.entry < row.entry = below r.entry p rows row up.0 e in
      let this : F r ≡ G r = others r (λ is. omega (arith, is, less, named)) in
      (λ i. this i ∷ change_one p rows row up.1 e named here i)

-- ---- new trees

abbrev pub lead_chain : ℕ → Chain → Chain
lead_chain n r = record { entry = r.entry; alg = r.alg; token = r.token; members = r.members; later = r.later; next = Some n; most = r.most; least = r.least }

pub led_chains : ℕ → List ℕ → List Chain → List Chain
led_chains n [] rows = rows
led_chains n (p ∷ places) rows = change (lead_chain n) p (led_chains n places rows)

pub led_seen : (stamps : Stamps) (n : ℕ) (places : List ℕ) (rows : List Row) → rows_seen stamps (led n places rows) ≡ led_chains n places (rows_seen stamps rows)
unfolding led_chains
led_seen stamps n [] rows = refl
led_seen stamps n (p ∷ places) rows =
    map_change (row_seen stamps) (leads_to n) (lead_chain n) p (led n places rows) (λ r. refl) ∙ ap (change (lead_chain n) p) (led_seen stamps n places rows)

none_taken : (n entry : ℕ) (o : Option ℕ) → next_after [] n entry o ≡ o
none_taken n entry None = refl
none_taken n entry (Some m) = refl

map_same : (f : Chain → Chain) (rows : List Chain) → ((r : Chain) → f r ≡ r) → map f rows ≡ rows
map_same f [] same = refl
map_same f (r ∷ rows) same = let this = same r in (λ i. this i ∷ map_same f rows same i)

with_next : Chain → Option ℕ → Chain
with_next r o = record { entry = r.entry; alg = r.alg; token = r.token; members = r.members; later = r.later; next = o; most = r.most; least = r.least }

other_next : (n c entry : ℕ) (cs : List ℕ) (o : Option ℕ) → (entry ≡ c → ⊥) → next_after cs n entry o ≡ next_after (c ∷ cs) n entry o
other_next n c entry cs (Some m) apart = refl
other_next n c entry cs None apart = sym (ap (λ (b : Bool). if b || has_name cs entry then Some n else None) (ne_eqb c entry (λ e. omega (arith, e, apart))))

this_next : (n c entry : ℕ) (cs : List ℕ) (o : Option ℕ) → entry ≡ c → o ≡ None → next_after (c ∷ cs) n entry o ≡ Some n
this_next n c entry cs o same open_ =
    ap (next_after (c ∷ cs) n entry) open_ ∙ ap (λ (b : Bool). if b || has_name cs entry then Some n else None) (eq-eqb c entry (sym same))

pub led_is : (n : ℕ) (places cohorts : List ℕ) (rows : List Chain) → RowsAscend rows → AreNamed rows places cohorts → led_chains n places rows ≡ map (taken cohorts n) rows
unfolding led_chains with_next
led_is n [] [] rows up named = sym (map_same (taken [] n) rows (λ r. ap (with_next r) (none_taken n r.entry r.next)))
led_is n [] (c ∷ cs) rows up named = absurd named
led_is n (p ∷ places) [] rows up named = absurd named
led_is n (p ∷ places) (c ∷ cs) rows up named =
    let one : IsNamed rows p c = named.0 in
    let act : lead_chain n (taken cs n one.row) ≡ taken (c ∷ cs) n one.row = ap (with_next one.row) (sym (this_next n c one.row.entry cs one.row.next one.entry one.open_)) in
    ap (change (lead_chain n) p) (led_is n places cs rows up named.1)
    ∙ change_one (taken cs n) (taken (c ∷ cs) n) (lead_chain n) c (λ r apart. ap (with_next r) (other_next n c r.entry cs r.next apart)) p rows one.row up one.there one.entry act

-- ---- a further time-stamp

abbrev pub longer_chain : List Cover → ℕ → Chain → Chain
longer_chain covers most r = record { entry = r.entry; alg = r.alg; token = r.token; members = r.members; later = covers; next = r.next; most = most; least = r.least }

pub lengthened_chains : List (ℕ × List Cover × ℕ) → List Chain → List Chain
lengthened_chains [] rows = rows
lengthened_chains (l ∷ longer) rows = change (longer_chain l.1 l.2) l.0 (lengthened_chains longer rows)

abbrev pub longer_seen : Stamps → Longer → ℕ × List Cover × ℕ
longer_seen stamps l = (l.row, map (later_seen stamps) l.later.items, l.most)

pub lengthened_seen : (stamps : Stamps) (longer : List Longer) (rows : List Row) → rows_seen stamps (lengthened longer rows) ≡ lengthened_chains (map (longer_seen stamps) longer) (rows_seen stamps rows)
unfolding lengthened_chains
lengthened_seen stamps [] rows = refl
lengthened_seen stamps (l ∷ longer) rows =
    map_change (row_seen stamps) (with_later l) (longer_chain (map (later_seen stamps) l.later.items) l.most) l.row (lengthened longer rows) (λ r. refl)
    ∙ ap (change (longer_chain (map (later_seen stamps) l.later.items) l.most) l.row) (lengthened_seen stamps longer rows)

with_covers : Chain → List Cover → ℕ → Chain
with_covers r covers most = record { entry = r.entry; alg = r.alg; token = r.token; members = r.members; later = covers; next = r.next; most = most; least = r.least }

none_most : (entry most : ℕ) (o : Option ℕ) → most_after [] entry most o ≡ most
none_most entry most None = refl
none_most entry most (Some m) = refl

other_most : (c entry most : ℕ) (cs : List ℕ) (o : Option ℕ) → (entry ≡ c → ⊥) → most_after cs entry most o ≡ most_after (c ∷ cs) entry most o
other_most c entry most cs (Some m) apart = refl
other_most c entry most cs None apart = sym (ap (λ (b : Bool). if b || has_name cs entry then most + 1 else most) (ne_eqb c entry (λ e. omega (arith, e, apart))))

this_most : (c entry most : ℕ) (cs : List ℕ) (o : Option ℕ) → entry ≡ c → o ≡ None → most_after (c ∷ cs) entry most o ≡ most + 1
this_most c entry most cs o same open_ =
    ap (most_after (c ∷ cs) entry most) open_ ∙ ap (λ (b : Bool). if b || has_name cs entry then most + 1 else most) (eq-eqb c entry (sym same))

none_later : (cover : ℕ → Cover) (entry : ℕ) (later : List Cover) (o : Option ℕ) → later_after cover [] entry later o ≡ later
none_later cover entry later None = refl
none_later cover entry later (Some m) = refl

module _ (cover : ℕ → Cover) (at : ℕ) where
  abbrev from_here : ℕ → Cover
  from_here p = cover (at + p)

  abbrev from_next : ℕ → Cover
  from_next p = cover (at + 1 + p)

  other_later : (c entry : ℕ) (cs : List ℕ) (later : List Cover) (o : Option ℕ) → (entry ≡ c → ⊥) → later_after from_next cs entry later o ≡ later_after from_here (c ∷ cs) entry later o
  other_later c entry cs later (Some m) apart = refl
  other_later c entry cs later None apart =
      let differs : (c == entry) ≡ false = ne_eqb c entry (λ e. omega (arith, e, apart)) in
      let place : at + 1 + place_of cs entry ≡ at + suc (place_of cs entry) = omega arith in
      ap (λ (p : ℕ). if has_name cs entry then later ++ cover p ∷ [] else later) place
      ∙ sym (ap (λ (b : Bool). if b || has_name cs entry then later ++ cover (at + (if b then 0 else suc (place_of cs entry))) ∷ [] else later) differs)

  this_later : (c entry : ℕ) (cs : List ℕ) (later : List Cover) (o : Option ℕ) → entry ≡ c → o ≡ None → later_after from_here (c ∷ cs) entry later o ≡ later ++ cover at ∷ []
  this_later c entry cs later o same open_ =
      let is : (c == entry) ≡ true = eq-eqb c entry (sym same) in
      let place : at + 0 ≡ at = omega arith in
      ap (later_after from_here (c ∷ cs) entry later) open_
      ∙ ap (λ (b : Bool). if b || has_name cs entry then later ++ cover (at + (if b then 0 else suc (place_of cs entry))) ∷ [] else later) is
      ∙ ap (λ (p : ℕ). later ++ cover p ∷ []) place

pub lengthened_is : (cover : ℕ → Cover) (at : ℕ) (longer : List (ℕ × List Cover × ℕ)) (cohorts : List ℕ) (rows : List Chain) → RowsAscend rows → AreLonger cover at rows longer cohorts
    → lengthened_chains longer rows ≡ map (stamped (λ p. cover (at + p)) cohorts) rows
unfolding lengthened_chains with_covers
lengthened_is cover at [] [] rows up named = sym (map_same (stamped (λ p. cover (at + p)) []) rows (λ r. (λ i. with_covers r (none_later (λ p. cover (at + p)) r.entry r.later r.next i) (none_most r.entry r.most r.next i))))
lengthened_is cover at [] (c ∷ cs) rows up named = absurd named
lengthened_is cover at (l ∷ longer) [] rows up named = absurd named
lengthened_is cover at (l ∷ longer) (c ∷ cs) rows up named =
    let one : IsLonger rows l.0 l.1 l.2 c (cover at) = named.0 in
    let row = one.named.row in
    let later = one.later_is ∙ sym (this_later cover at c row.entry cs row.later row.next one.named.entry one.named.open_) in
    let most = one.most_is ∙ sym (this_most c row.entry row.most cs row.next one.named.entry one.named.open_) in
    let act : longer_chain l.1 l.2 (stamped (λ p. cover (at + 1 + p)) cs row) ≡ stamped (λ p. cover (at + p)) (c ∷ cs) row = (λ i. with_covers row (later i) (most i)) in
    ap (change (longer_chain l.1 l.2) l.0) (lengthened_is cover (at + 1) longer cs rows up named.1)
    ∙ change_one (stamped (λ p. cover (at + 1 + p)) cs) (stamped (λ p. cover (at + p)) (c ∷ cs)) (longer_chain l.1 l.2) c
    (λ r apart. (λ i. with_covers r (other_later cover at c r.entry cs r.later r.next apart i) (other_most c r.entry r.most cs r.next apart i))) l.0 rows row up one.named.there one.named.entry act

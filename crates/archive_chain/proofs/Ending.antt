-- Where the walk of a group ends: in the row of its cohort, whose last time-stamp is the group's last.
use Rattle.std.proofs.Common.{◌≡◌, ℕ, zero, suc, ◌+◌, ◌-◌, ◌<◌, ◌≤◌, Bool, true, List, [], ◌∷◌, ◌++◌, length, map, Option, Some, None, refl, sym, ap, subst, ◌∙◌, arith, append-nil}
use Rattle.std.specs.Prelude.{◌==◌, ◌||◌, slice_get, if◌then◌else◌}
use Rattle.std.specs.List.{AllByRecursion, list_any}
use Rattle.std.proofs.lemmas.Bool.{eqb-true, eq-eqb}
use Rattle.archive_chain.specs.Kept.{Cover, Last, cohort_after, cohort_of, last_after, last_of, cohort_last}
use Rattle.archive_chain.specs.InsideRows.{Row as Chain, begun, walk, sealed_by, GoesOn, IsRow, AreRows}
use Rattle.std.proofs.lemmas.Option.{slice_get-get_or}
use Rattle.archive_chain.specs.declared.time_stamp.TimeStamp.{TimeStamp}
use Rattle.archive_chain.specs.declared.row.Row.{Row}
use Rattle.archive_chain.specs.declared.row.Later.{Later}
use Rattle.archive_chain.specs.InsideTable.{Stamps, alg_in, token_in, stamp_at, later_seen, row_seen, RowsAscend, IsTreedLater, IsTreed}
use Rattle.archive_chain.specs.InsideLast.{last_entry}
use Rattle.archive_chain.proofs.RowsRenewing.{by_test, cohort_append, cohort_later, nothing, walk_here, walk_later, walk_begins}
use Rattle.archive_chain.proofs.Indexing.{none_some, some_is, all_at}

-- the last time-stamp of the chain in a row, whichever group it covers
abbrev pub last_in : Chain → Last
last_in row = last_after (begun row 0) row.later

-- the covers of a group end in this row
pub record IsEnd (rows : List Chain) (covers : List Cover) : Type 0 where
  pub place : ℕ
  pub row : Chain
  pub there : slice_get rows place ≡ Some row
  pub open_ : row.next ≡ None
  pub cohort : cohort_of covers ≡ row.entry
  pub last : last_of covers ≡ Some (last_in row)

-- ---- one group

last_append : (c : Cover) (later covers : List Cover) (last : Last) → last_of covers ≡ Some last → last_after c (later ++ covers) ≡ last
last_append c [] [] last e = absurd (none_some last e)
last_append c [] (d ∷ covers) last e = some_is (last_after d covers) last e
last_append c (d ∷ later) covers last e = last_append d later covers last e

same_last : (row : Chain) (id : ℕ) (later : List Cover) → last_after (begun row id) later ≡ last_after (begun row 0) later
same_last row id [] = refl
same_last row id (c ∷ later) = refl

module _ (id n : ℕ) where
  end_here : (row : Chain) (rows : List Chain) (at : ℕ) (next : Option ℕ) → row.next ≡ next → n ≡ at + 1 + length rows → IsRow at n row
      → ((w : ℕ) → at + 1 ≤ w → w < n → IsEnd rows (walk id (at + 1) (Some w) rows))
      → IsEnd (row ∷ rows) (begun row id ∷ (row.later ++ walk id (at + 1) next rows))
  end_here row rows at None is e good rest =
      let none = nothing id (at + 1) rows in record {
        place = 0;
        row = row;
        there = refl;
        open_ = is;
        cohort = ap (λ (l : List Cover). cohort_after row.entry (row.later ++ l)) none ∙ ap (cohort_after row.entry) (append-nil row.later) ∙ cohort_later row.entry row.later good.later;
        last = ap (λ (l : List Cover). Some (last_after (begun row id) (row.later ++ l))) none ∙ ap (λ (l : List Cover). Some (last_after (begun row id) l)) (append-nil row.later)
            ∙ ap (λ (x : Last). Some x) (same_last row id row.later);
      }
  end_here row rows at (Some m) is e good rest =
      let goes : GoesOn at n (Some m) = subst (GoesOn at n) is good.goes_on in
      let low : at + 1 ≤ m = omega (arith, goes.0) in
      let covers : List Cover = walk id (at + 1) (Some m) rows in
      let on : IsEnd rows covers = rest m low goes.1 in
      let begins = walk_begins id (at + 1) m rows low (omega (arith, goes.1, e)) in record {
        place = suc on.place;
        row = on.row;
        there = on.there;
        open_ = on.open_;
        cohort = cohort_append row.entry row.later covers ∙ begins (cohort_after row.entry row.later) 0 ∙ on.cohort;
        last = ap (λ (x : Last). Some x) (last_append (begun row id) row.later covers (last_in on.row) on.last);
      }

  walk_end : (rows : List Chain) (at : ℕ) → n ≡ at + length rows → AreRows at n rows → (w : ℕ) → at ≤ w → w < n → IsEnd rows (walk id at (Some w) rows)
  walk_end [] at e good w low high = absurd (omega (arith, e, low, high))
  walk_end (row ∷ rows) at e good w low high =
      let rest = walk_end rows (at + 1) (omega (arith, e)) good.1 in
      by_test (w == at)
      (λ t. subst (IsEnd (row ∷ rows)) (sym (walk_here id at w row rows (eqb-true w at t))) (end_here row rows at row.next refl (omega (arith, e)) good.0 rest))
      (λ t.
      let apart : w ≡ at → ⊥ = λ same. let f = sym (eq-eqb w at same) ∙ t in cc in
      let on : IsEnd rows (walk id (at + 1) (Some w) rows) = rest w (omega (arith, low, apart)) high in
      subst (IsEnd (row ∷ rows)) (sym (walk_later id at w row rows apart))
      (record { place = suc on.place; row = on.row; there = on.there; open_ = on.open_; cohort = on.cohort; last = on.last }))

-- ---- all groups

pub all_end : (rows : List Chain) (id : ℕ) (firsts : List ℕ) → AreRows 0 (length rows) rows → AllByRecursion (λ first. first < length rows) firsts → AllByRecursion (IsEnd rows) (sealed_by rows id firsts)
all_end rows id [] good known = tt
all_end rows id (first ∷ firsts) good known =
    (walk_end id (length rows) rows 0 (omega arith) good first (omega arith) known.0, all_end rows (id + 1) firsts good known.1)

-- no two rows are of one entry
pub one_entry : (rows : List Chain) (p q : ℕ) (a b : Chain) → RowsAscend rows → slice_get rows p ≡ Some a → slice_get rows q ≡ Some b → a.entry ≡ b.entry → a ≡ b
one_entry [] p q a b up e f same = absurd (none_some a e)
one_entry (r ∷ rows) zero zero a b up e f same = sym (some_is r a e) ∙ some_is r b f
one_entry (r ∷ rows) zero (suc q) a b up e f same =
    let less = all_at (λ (x : Chain). r.entry < x.entry) rows q b up.0 f in
    let first : r.entry ≡ a.entry = ap (λ (x : Chain). x.entry) (some_is r a e) in
    absurd (omega (arith, less, first, same))
one_entry (r ∷ rows) (suc p) zero a b up e f same =
    let less = all_at (λ (x : Chain). r.entry < x.entry) rows p a up.0 e in
    let first : r.entry ≡ b.entry = ap (λ (x : Chain). x.entry) (some_is r b f) in
    absurd (omega (arith, less, first, same))
one_entry (r ∷ rows) (suc p) (suc q) a b up e f same = one_entry rows p q a b up.1 e f same

module _ (rows : List Chain) (place : ℕ) (row : Chain) (up : RowsAscend rows) (there : slice_get rows place ≡ Some row) where
  -- a group of its cohort ends in this row
  pub ends_here : (covers : List Cover) → IsEnd rows covers → cohort_of covers ≡ row.entry → last_of covers ≡ Some (last_in row)
  ends_here covers end same =
      end.last ∙ ap (λ (r : Chain). Some (last_in r)) (one_entry rows end.place place end.row row up end.there there (sym end.cohort ∙ same))

  pub cohort_ends : (groups : List (List Cover)) → AllByRecursion (IsEnd rows) groups → list_any (λ covers. cohort_of covers == row.entry) groups ≡ true
      → cohort_last groups row.entry ≡ Some (last_in row)
  cohort_ends [] ends live = absurd cc
  cohort_ends (g ∷ groups) ends live =
      by_test (cohort_of g == row.entry)
      (λ t. ap (λ (b : Bool). if b then last_of g else cohort_last groups row.entry) t ∙ ends_here g ends.0 (eqb-true (cohort_of g) row.entry t))
      (λ f.
      ap (λ (b : Bool). if b then last_of g else cohort_last groups row.entry) f
      ∙ cohort_ends groups ends.1 (sym (ap (λ (b : Bool). b || list_any (λ covers. cohort_of covers == row.entry) groups) f) ∙ live))

-- ---- as the rows of the archive show it

-- what the cohort has of the time-stamp of this entry
abbrev pub last_at : Stamps → ℕ → Last
last_at stamps entry = record { alg = alg_in (stamp_at stamps entry); token = token_in (stamp_at stamps entry) }

module _ (stamps : Stamps) where
  after : (c : Cover) (entry : ℕ) (later : List Later) → c.alg ≡ alg_in (stamp_at stamps entry) → c.token ≡ token_in (stamp_at stamps entry)
      → last_after c (map (later_seen stamps) later) ≡ last_at stamps (last_entry entry later)
  after c entry [] alg token = (λ i. record { alg = alg i; token = token i })
  after c entry (l ∷ later) alg token = after (later_seen stamps l) l.stamp later refl refl

  pub last_row : (r : Row) → last_in (row_seen stamps r) ≡ last_at stamps (last_entry r.stamp r.later.items)
  last_row r = after (begun (row_seen stamps r) 0) r.stamp r.later.items refl refl

  pub record IsThere (entry : ℕ) : Type 0 where
    pub stamp : TimeStamp
    pub within : entry < length stamps
    pub there : stamp_at stamps entry ≡ Some stamp

  goes_on : (entry : ℕ) (later : List Later) → IsThere entry → AllByRecursion (IsTreedLater stamps) later → IsThere (last_entry entry later)
  goes_on entry [] here all = here
  goes_on entry (l ∷ later) here all = goes_on l.stamp later (record { stamp = all.0.stamp; within = all.0.within; there = all.0.there }) all.1

  pub last_there : (r : Row) → IsTreed stamps r → IsThere (last_entry r.stamp r.later.items)
  last_there r treed = goes_on r.stamp r.later.items (record { stamp = treed.stamp; within = treed.within; there = treed.there }) treed.later

pub last_got : (entry : ℕ) (later : List Later) (l : Later) → slice_get later (length later - 1) ≡ Some l → last_entry entry later ≡ l.stamp
last_got entry [] l e = absurd (none_some l e)
last_got entry (m ∷ []) l e = ap (λ (x : Later). x.stamp) (some_is m l e)
last_got entry (m ∷ n ∷ later) l e =
    let moved : length (m ∷ n ∷ later) - 1 ≡ suc (length (n ∷ later) - 1) = omega arith in
    last_got m.stamp (n ∷ later) l (sym (ap (slice_get (m ∷ n ∷ later)) moved) ∙ e)

pub last_none : (entry : ℕ) (later : List Later) → slice_get later (length later - 1) ≡ None → last_entry entry later ≡ entry
last_none entry [] e = refl
last_none entry (m ∷ later) e = absurd (let h = slice_get-get_or (m ∷ later) (length (m ∷ later) - 1) m (omega arith) in none_some _ (sym e ∙ h))

-- The loops over the rows of a group: the first entry from a number on, and what its time-stamps say.
use Rattle.std.proofs.Common.{◌≡◌, ℕ, zero, suc, ◌+◌, ◌<◌, ◌≤◌, Bool, true, false, List, [], ◌∷◌, ◌++◌, length, map, drop, Option, Some, None, refl, sym, ap, subst, ◌∙◌, arith, append_assoc, append-nil}
use Rattle.std.specs.Prelude.{◌==◌, nat_le, find, cond, slice_index_or, if◌then◌else◌}
use Rattle.std.specs.Option.{option_map}
use Rattle.std.specs.List.{AllByRecursion}
use Rattle.std.proofs.lemmas.List.{map-append, length-map}
use Rattle.algorithm_policy.specs.Content.{Content}
use Rattle.token_check.specs.Sound.{Sound}
use Rattle.archive_chain.specs.Kept.{Cover, first_from}
use Rattle.archive_chain.specs.Coverings.{AreCoverings}
use Rattle.archive_chain.specs.declared.coverings.Covering.{Covering}
use Rattle.archive_chain.specs.declared.row.Later.{Later}
use Rattle.archive_chain.specs.declared.row.Row.{Row}
use Rattle.archive_chain.specs.declared.time_stamp.TimeStamp.{TimeStamp}
use Rattle.archive_chain.specs.InsideRows.{Row as Chain, begun, walk, AreRows}
use Rattle.archive_chain.specs.InsideTable.{Stamps, alg_in, token_in, stamp_at, later_seen, row_seen, rows_seen, IsTreed, IsTreedLater}
use Rattle.archive_chain.specs.InsideSaid.{IsSaid, IsSaidOf}
use Rattle.archive_chain.specs.InsideCovers.{Told, covering_seen, told_of, told_by, time_in, sid_in, entry_from}
use Rattle.archive_chain.proofs.RowsRenewing.{by_test, nothing}
use Rattle.archive_chain.proofs.Growing.{all_append}
use Rattle.archive_chain.proofs.Walking.{Within, Visit, visit}
use Rattle.archive_chain.proofs.Indexing.{none_some}
use Rattle.archive_chain.proofs.Reading.{no_later, drop_later}

-- ---- the first entry from a number on

first_behind : (front : ℕ) (xs ys : List Cover) → first_from front xs ≡ None → first_from front (xs ++ ys) ≡ first_from front ys
first_behind front [] ys e = refl
first_behind front (c ∷ xs) ys e =
    by_test (nat_le front c.entry)
    (λ t. absurd (none_some c.entry (sym e ∙ ap (λ (b : Bool). if b then Some c.entry else first_from front xs) t)))
    (λ f. ap (λ (b : Bool). if b then Some c.entry else first_from front (xs ++ ys)) f
    ∙ first_behind front xs ys (sym (ap (λ (b : Bool). if b then Some c.entry else first_from front xs) f) ∙ e))

first_before : (front n : ℕ) (xs ys : List Cover) → first_from front xs ≡ Some n → first_from front (xs ++ ys) ≡ Some n
first_before front n [] ys e = absurd (none_some n e)
first_before front n (c ∷ xs) ys e =
    by_test (nat_le front c.entry)
    (λ t. ap (λ (b : Bool). if b then Some c.entry else first_from front (xs ++ ys)) t ∙ sym (ap (λ (b : Bool). if b then Some c.entry else first_from front xs) t) ∙ e)
    (λ f. ap (λ (b : Bool). if b then Some c.entry else first_from front (xs ++ ys)) f
    ∙ first_before front n xs ys (sym (ap (λ (b : Bool). if b then Some c.entry else first_from front xs) f) ∙ e))

later_first : (stamps : Stamps) (front : ℕ) (later : List Later) → first_from front (map (later_seen stamps) later) ≡ option_map (λ (l : Later). l.stamp) (find (λ (l : Later). nat_le front l.stamp) later)
later_first stamps front [] = refl
later_first stamps front (l ∷ later) =
    by_test (nat_le front l.stamp)
    (λ t. ap (λ (b : Bool). if b then Some l.stamp else first_from front (map (later_seen stamps) later)) t
    ∙ sym (ap (λ (b : Bool). option_map (λ (x : Later). x.stamp) (cond b (Some l) (find (λ (x : Later). nat_le front x.stamp) later))) t))
    (λ f. ap (λ (b : Bool). if b then Some l.stamp else first_from front (map (later_seen stamps) later)) f ∙ later_first stamps front later
    ∙ sym (ap (λ (b : Bool). option_map (λ (x : Later). x.stamp) (cond b (Some l) (find (λ (x : Later). nat_le front x.stamp) later))) f))

row_first : (stamps : Stamps) (front id : ℕ) (row : Row) → first_from front (begun (row_seen stamps row) id ∷ map (later_seen stamps) row.later.items) ≡ entry_from front row.stamp row.later.items
row_first stamps front id row = ap (λ (o : Option ℕ). if nat_le front row.stamp then Some row.stamp else o) (later_first stamps front row.later.items)

module _ (stamps : Stamps) (rows : List Row) (id w front : ℕ) (row : Row) (at : Option ℕ) (good : AreRows 0 (length rows) (rows_seen stamps rows))
    (is : row ≡ slice_index_or rows w row) (goes : at ≡ Some w) (within : Within (length rows) at) where
  pub here : Visit stamps rows id w row
  here = visit stamps rows id w row good (subst (Within (length rows)) goes within) is

  abbrev rest : List Cover
  rest = walk id 0 row.next (rows_seen stamps rows)

  abbrev these : List Cover
  these = begun (row_seen stamps row) id ∷ map (later_seen stamps) row.later.items

  pub split : walk id 0 at (rows_seen stamps rows) ≡ these ++ rest
  split = ap (λ (o : Option ℕ). walk id 0 o (rows_seen stamps rows)) goes ∙ here.walk_is

  pub from_later : entry_from front row.stamp row.later.items ≡ None → first_from front (walk id 0 at (rows_seen stamps rows)) ≡ first_from front rest
  from_later none = ap (first_from front) split ∙ first_behind front these rest (row_first stamps front id row ∙ none)

  pub from_here : (n : ℕ) → entry_from front row.stamp row.later.items ≡ Some n → first_from front (walk id 0 at (rows_seen stamps rows)) ≡ Some n
  from_here n found = ap (first_from front) split ∙ first_before front n these rest (row_first stamps front id row ∙ found)

  -- what was told so far
  pub told_more : (all : List Told) (told more : List Told) → told ++ map (told_by stamps) (walk id 0 at (rows_seen stamps rows)) ≡ all
      → more ≡ told ++ map (told_by stamps) (begun (row_seen stamps row) 0 ∷ map (later_seen stamps) row.later.items) → more ++ map (told_by stamps) rest ≡ all
  told_more all told more before are =
      ap (λ (l : List Told). l ++ map (told_by stamps) rest) are
      ∙ append_assoc told (map (told_by stamps) these) (map (told_by stamps) rest)
      ∙ ap (λ (l : List Told). told ++ l) (sym (map-append (told_by stamps) these rest))
      ∙ ap (λ (l : List Cover). told ++ map (told_by stamps) l) (sym split) ∙ before

-- ---- one chain

told_here : (stamps : Stamps) (t : TimeStamp) (c : Cover) → stamp_at stamps c.entry ≡ Some t → told_of t c.begins ≡ told_by stamps c
told_here stamps t c at = (λ i. record { begins = c.begins; alg = alg_in (sym at i); time = time_in (sym at i); sid = sid_in (sym at i) })

pub first_told : (stamps : Stamps) (row : Row) (t : TimeStamp) (told : Told) → stamp_at stamps row.stamp ≡ Some t → told ≡ told_of t true → told ≡ told_by stamps (begun (row_seen stamps row) 0)
first_told stamps row t told at is = is ∙ told_here stamps t (begun (row_seen stamps row) 0) at

pub next_told : (stamps : Stamps) (items seen : List Later) (i : ℕ) (t : TimeStamp) (made more all : List Told) (one : Told) → seen ≡ items → i < length items → stamp_at stamps (slice_index_or seen i no_later).stamp ≡ Some t
    → one ≡ told_of t false → more ≡ made ++ one ∷ [] → made ++ map (told_by stamps) (map (later_seen stamps) (drop i items)) ≡ all
    → more ++ map (told_by stamps) (map (later_seen stamps) (drop (i + 1) items)) ≡ all
next_told stamps items seen i t made more all one same less at is grown before =
    let item : slice_index_or seen i no_later ≡ slice_index_or items i no_later = ap (λ (l : List Later). slice_index_or l i no_later) same in
    let told : one ≡ told_by stamps (later_seen stamps (slice_index_or items i no_later)) =
    is ∙ told_here stamps t (later_seen stamps (slice_index_or seen i no_later)) at ∙ ap (λ (l : Later). told_by stamps (later_seen stamps l)) item in
    let left : List Told = map (told_by stamps) (map (later_seen stamps) (drop (i + 1) items)) in
    ap (λ (l : List Told). l ++ left) grown ∙ append_assoc made (one ∷ []) left ∙ ap (λ (x : Told). made ++ x ∷ left) told
    ∙ sym (ap (λ (l : List Later). made ++ map (told_by stamps) (map (later_seen stamps) l)) (drop_later items i less)) ∙ before

-- ---- all chains

-- the cover is that of a time-stamp
pub record IsOf (stamps : Stamps) (c : Cover) : Type 0 where
  pub stamp : TimeStamp
  pub there : stamp_at stamps c.entry ≡ Some stamp
  pub alg : c.alg ≡ stamp.alg
  pub token : c.token ≡ stamp.token

of_later : (stamps : Stamps) (later : List Later) → AllByRecursion (IsTreedLater stamps) later → AllByRecursion (IsOf stamps) (map (later_seen stamps) later)
of_later stamps [] treed = tt
of_later stamps (l ∷ later) treed =
    (record { stamp = treed.0.stamp; there = treed.0.there; alg = ap alg_in treed.0.there; token = ap token_in treed.0.there }, of_later stamps later treed.1)

pub of_walk : (stamps : Stamps) (id at : ℕ) (wanted : Option ℕ) (rows : List Row) → AllByRecursion (IsTreed stamps) rows → AllByRecursion (IsOf stamps) (walk id at wanted (rows_seen stamps rows))
of_walk stamps id at wanted [] treed = tt
of_walk stamps id at None (row ∷ rows) treed = tt
of_walk stamps id at (Some w) (row ∷ rows) treed =
    let first : IsOf stamps (begun (row_seen stamps row) id) = record { stamp = treed.0.stamp; there = treed.0.there; alg = ap alg_in treed.0.there; token = ap token_in treed.0.there } in
    let seen : List Chain = rows_seen stamps rows in
    let here : List Cover = begun (row_seen stamps row) id ∷ (map (later_seen stamps) row.later.items ++ walk id (at + 1) row.next seen) in
    by_test (w == at)
    (λ t. subst (λ (b : Bool). AllByRecursion (IsOf stamps) (if b then here else walk id (at + 1) (Some w) seen)) (sym t)
    (first, all_append (IsOf stamps) (map (later_seen stamps) row.later.items) (walk id (at + 1) row.next seen) (of_later stamps row.later.items treed.0.later) (of_walk stamps id (at + 1) row.next rows treed.1)))
    (λ f. subst (λ (b : Bool). AllByRecursion (IsOf stamps) (if b then here else walk id (at + 1) (Some w) seen)) (sym f) (of_walk stamps id (at + 1) (Some w) rows treed.1))

said_at : (policy : Content) (stamps : Stamps) (entry : ℕ) (t : TimeStamp) → AllByRecursion (IsSaidOf policy) stamps → stamp_at stamps entry ≡ Some t → IsSaid policy t
said_at policy [] entry t said at = absurd (none_some t at)
said_at policy (s ∷ stamps) zero t said at = subst (IsSaidOf policy) at said.0
said_at policy (s ∷ stamps) (suc entry) t said at = said_at policy stamps entry t said.1 at

some_told : (x : Told) (xs : List Told) → ◌≡◌ {A = List Told} (x ∷ xs) [] → ⊥
some_told x xs e = cc

no_told : (x : Told) (xs : List Told) → ◌≡◌ {A = List Told} [] (x ∷ xs) → ⊥
no_told x xs e = cc

head_told : (x y : Told) (xs ys : List Told) → ◌≡◌ {A = List Told} (x ∷ xs) (y ∷ ys) → (x ≡ y) × (xs ≡ ys)
head_told x y xs ys e = (cc, cc)

pub coverings_are : (policy : Content) (stamps : Stamps) (covers : List Cover) (coverings : List Covering) → AllByRecursion (IsSaidOf policy) stamps → AllByRecursion (IsOf stamps) covers
    → map covering_seen coverings ≡ map (told_by stamps) covers → AreCoverings policy covers coverings
coverings_are policy stamps [] [] said of e = tt
coverings_are policy stamps [] (covering ∷ coverings) said of e = absurd (some_told (covering_seen covering) (map covering_seen coverings) e)
coverings_are policy stamps (c ∷ covers) [] said of e = absurd (no_told (told_by stamps c) (map (told_by stamps) covers) e)
coverings_are policy stamps (c ∷ covers) (covering ∷ coverings) said of e =
    let both = head_told (covering_seen covering) (told_by stamps c) (map covering_seen coverings) (map (told_by stamps) covers) e in
    let is : IsOf stamps c = of.0 in
    let says = said_at policy stamps c.entry is.stamp said is.there in (
      record {
        begins_is = ap (λ (t : Told). t.begins) both.0;
        alg_is = ap (λ (t : Told). t.alg) both.0 ∙ ap alg_in is.there ∙ sym is.alg;
        says = says.says;
        sound = subst (λ (t : List ℕ). Sound policy t says.says) (sym is.token) says.sound;
        hash_is = says.hash_is ∙ sym (ap (λ (t : Told). t.alg) both.0 ∙ ap alg_in is.there);
        time_is = says.time_is ∙ sym (ap (λ (t : Told). t.time) both.0 ∙ ap time_in is.there);
        sid_is = says.sid_is ∙ sym (ap (λ (t : Told). t.sid) both.0 ∙ ap sid_in is.there);
      },
      coverings_are policy stamps covers coverings said of.1 both.1,
    )

-- what the loop has when no row is left
pub all_told : (policy : Content) (stamps : Stamps) (rows : List Row) (id : ℕ) (at : Option ℕ) (covers : List Cover) (coverings : List Covering) → AllByRecursion (IsSaidOf policy) stamps → AllByRecursion (IsOf stamps) covers
    → at ≡ None → map covering_seen coverings ++ map (told_by stamps) (walk id 0 at (rows_seen stamps rows)) ≡ map (told_by stamps) covers → AreCoverings policy covers coverings
all_told policy stamps rows id at covers coverings said of none told =
    let done : walk id 0 at (rows_seen stamps rows) ≡ [] = ap (λ (o : Option ℕ). walk id 0 o (rows_seen stamps rows)) none ∙ nothing id 0 (rows_seen stamps rows) in
    coverings_are policy stamps covers coverings said of
    (sym (append-nil (map covering_seen coverings)) ∙ sym (ap (λ (l : List Cover). map covering_seen coverings ++ map (told_by stamps) l) done) ∙ told)

-- and how many
pub few_told : (stamps : Stamps) (rows : List Row) (id : ℕ) (at : Option ℕ) (covers : List Cover) (coverings : List Covering) → at ≡ None
    → map covering_seen coverings ++ map (told_by stamps) (walk id 0 at (rows_seen stamps rows)) ≡ map (told_by stamps) covers → length covers ≤ 200 → length coverings ≤ 200
few_told stamps rows id at covers coverings none told few =
    let done : walk id 0 at (rows_seen stamps rows) ≡ [] = ap (λ (o : Option ℕ). walk id 0 o (rows_seen stamps rows)) none ∙ nothing id 0 (rows_seen stamps rows) in
    let same : map covering_seen coverings ≡ map (told_by stamps) covers =
    sym (append-nil (map covering_seen coverings)) ∙ sym (ap (λ (l : List Cover). map covering_seen coverings ++ map (told_by stamps) l) done) ∙ told in
    let many = ap (λ (l : List Told). length l) same in
    let left = length-map coverings covering_seen in
    let right = length-map covers (told_by stamps) in
    omega (arith, many, left, right, few)

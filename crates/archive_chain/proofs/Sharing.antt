-- Each group's last time-stamp is that of its cohort, which is the last one of the cohort's row.
use Rattle.std.proofs.Common.{◌≡◌, ℕ, ◌<◌, ◌≤◌, arith, Bool, true, false, List, [], ◌∷◌, length, map, Option, Some, None, get_or, refl, sym, ap, subst, ◌∙◌}
use Rattle.std.specs.Prelude.{◌==◌, ◌||◌, slice_get}
use Rattle.std.specs.List.{AllByRecursion, list_any}
use Rattle.std.proofs.lemmas.Bool.{eq-eqb}
use Rattle.std.proofs.lemmas.Option.{slice_get-get_or}
use Rattle.algorithm_policy.specs.Content.{Content}
use Rattle.archive_chain.specs.InsideSaid.{IsSaid, IsSaidOf}
use Rattle.std.proofs.lemmas.List.{length-map}
use Rattle.archive_chain.specs.Kept.{Cover, Last, cohort_of, has_name, cohorts_in, last_of, cohort_last}
use Rattle.archive_chain.specs.declared.row.Row.{Row}
use Rattle.archive_chain.specs.InsideRows.{Row as Chain, AreRows}
use Rattle.archive_chain.specs.InsideTable.{Stamps, alg_in, token_in, stamp_at, plain_of, row_seen, rows_seen, sealed_in, IsTreed, IsTable}
use Rattle.archive_chain.specs.InsidePieces.{IsAt, IsRowOf}
use Rattle.archive_chain.specs.Held.{Plain, Held}
use Rattle.archive_chain.specs.declared.time_stamp.TimeStamp.{TimeStamp}
use Rattle.archive_chain.specs.InsidePeak.{IsPeak, IsTop}
use Rattle.archive_chain.specs.InsideFull.{IsPeakOf}
use Rattle.archive_chain.specs.InsideLast.{last_entry, last_seen}
use Rattle.archive_chain.proofs.Growing.{all_weaker}
use Rattle.archive_chain.proofs.Walking.{get_map}
use Rattle.archive_chain.proofs.Ending.{IsEnd, all_end, cohort_ends, last_at, last_row, IsThere, last_there}
use Rattle.archive_chain.proofs.Indexing.{all_at}
use Rattle.archive_chain.proofs.Finding.{IsRowAt, got_row}
use Rattle.archive_chain.proofs.Live.{named_live}

-- ---- each group is of a cohort

or_true : (a : Bool) → (a || true) ≡ true
or_true true = refl
or_true false = refl

among : (groups : List (List Cover)) → AllByRecursion (λ (g : List Cover). list_any (λ covers. cohort_of covers == cohort_of g) groups ≡ true) groups
among [] = tt
among (x ∷ groups) = (
  ap (λ (b : Bool). b || list_any (λ covers. cohort_of covers == cohort_of x) groups) (eq-eqb (cohort_of x) (cohort_of x) refl),
  all_weaker (λ (g : List Cover). list_any (λ covers. cohort_of covers == cohort_of g) groups ≡ true) (λ (g : List Cover). list_any (λ covers. cohort_of covers == cohort_of g) (x ∷ groups) ≡ true) groups
      (λ g h. ap (λ (b : Bool). (cohort_of x == cohort_of g) || b) h ∙ or_true (cohort_of x == cohort_of g)) (among groups),
)

both : {A : Type 0} (P Q R : A → Type 0) (xs : List A) → ((x : A) → P x → Q x → R x) → AllByRecursion P xs → AllByRecursion Q xs → AllByRecursion R xs
both P Q R [] f h k = tt
both P Q R (x ∷ xs) f h k = (f x h.0 k.0, both P Q R xs f h.1 k.1)

-- ---- of a table

module _ (stamps : Stamps) (rows : List Row) (firsts : List ℕ) (pending : ℕ) (table : IsTable stamps rows firsts pending) where
  abbrev chains : List Chain
  chains = rows_seen stamps rows

  abbrev sealed : List (List Cover)
  sealed = sealed_in stamps rows firsts

  ends : AllByRecursion (IsEnd chains) sealed
  ends =
      let many : length rows ≡ length chains = sym (length-map rows (row_seen stamps)) in
      all_end chains 0 firsts (subst (λ (n : ℕ). AreRows 0 n chains) many table.are_rows) (subst (λ (n : ℕ). AllByRecursion (λ first. first < n) firsts) many table.starts)

  pub last_is : (place : ℕ) (row : Row) → slice_get rows place ≡ Some row → row.next ≡ None → list_any (λ covers. cohort_of covers == row.stamp) sealed ≡ true
      → cohort_last sealed row.stamp ≡ Some (last_at stamps (last_entry row.stamp row.later.items))
  last_is place row there open_ live =
      cohort_ends chains place (row_seen stamps row) table.ascend (get_map (row_seen stamps) rows place row there) sealed ends live
      ∙ ap (λ (l : Last). Some l) (last_row stamps row)

  shared_one : (g : List Cover) → IsEnd chains g → list_any (λ covers. cohort_of covers == cohort_of g) sealed ≡ true → last_of g ≡ cohort_last sealed (cohort_of g)
  shared_one g end live =
      let same : cohort_of g ≡ end.row.entry = end.cohort in
      end.last
      ∙ sym (cohort_ends chains end.place end.row table.ascend end.there sealed ends (subst (λ (n : ℕ). list_any (λ covers. cohort_of covers == n) sealed ≡ true) same live))
      ∙ ap (cohort_last sealed) (sym same)

  pub shared : AllByRecursion (λ (g : List Cover). last_of g ≡ cohort_last sealed (cohort_of g)) sealed
  shared = both (IsEnd chains) (λ (g : List Cover). list_any (λ covers. cohort_of covers == cohort_of g) sealed ≡ true) (λ (g : List Cover). last_of g ≡ cohort_last sealed (cohort_of g)) sealed shared_one ends (among sealed)

  -- ---- of the row of a cohort

  pub record RowLasts (name : ℕ) (row : Row) : Type 0 where
    pub there : IsThere stamps (last_entry row.stamp row.later.items)
    pub last : cohort_last sealed name ≡ Some (last_at stamps (last_entry row.stamp row.later.items))

  row_lasts : (place name : ℕ) (row : Row) → IsRowAt rows place name row → list_any (λ covers. cohort_of covers == name) sealed ≡ true → RowLasts name row
  row_lasts place name row is live = record {
    there = last_there stamps row (all_at (IsTreed stamps) rows place row table.treed is.there);
    last = sym (ap (cohort_last sealed) is.entry) ∙ last_is place row is.there is.open_ (subst (λ (n : ℕ). list_any (λ covers. cohort_of covers == n) sealed ≡ true) (sym is.entry) live);
  }

  pub lasts_at : (h : Held) (place cohort : ℕ) (row : Row) → map plain_of rows ≡ h.room.table → sealed ≡ h.kept.sealed → IsRowOf h cohort place → row ≡ get_or rows place row → RowLasts cohort row
  lasts_at h place cohort row same_table same_sealed is at =
      row_lasts place cohort row (got_row rows place cohort row (subst (λ (t : List Plain). IsAt t place cohort) (sym same_table) is.at) at)
      (sym (named_live cohort sealed) ∙ ap (λ (gs : List (List Cover)). has_name (cohorts_in gs) cohort) same_sealed ∙ is.named)

  pub peak_at : (h : Held) (place cohort : ℕ) (row : Row) → map plain_of rows ≡ h.room.table → sealed ≡ h.kept.sealed → IsRowOf h cohort place → row ≡ get_or rows place row
      → IsPeakOf h.kept.sealed cohort (record { most = row.most; least = row.least })
  peak_at h place cohort row same_table same_sealed is at =
      let got = got_row rows place cohort row (subst (λ (t : List Plain). IsAt t place cohort) (sym same_table) is.at) at in
      let top : IsPeak (λ c. row.stamp ≡ c) sealed row.most row.least = all_at (IsTop sealed) chains place (row_seen stamps row) table.peaks (get_map (row_seen stamps) rows place row got.there) got.open_ in
      let few = all_at (λ (covers : List Cover). length covers ≤ 200) sealed row.least top.group table.short top.there in
      let many = top.many in
      subst (λ (gs : List (List Cover)). IsPeakOf gs cohort (record { most = row.most; least = row.least })) same_sealed (record {
        peak = subst (λ (n : ℕ). IsPeak (λ c. n ≡ c) sealed row.most row.least) got.entry top;
        few = omega (arith, few, many);
      })

-- what is had of the time-stamp that is there
pub seen_at : (stamps : Stamps) (entry : ℕ) (t : TimeStamp) → stamp_at stamps entry ≡ Some t → last_at stamps entry ≡ last_seen t
seen_at stamps entry t e = ap (λ (o : Option TimeStamp). let l : Last = record { alg = alg_in o; token = token_in o } in l) e

-- what its token says
pub said_at : (policy : Content) (stamps : Stamps) (entry : ℕ) (t : TimeStamp) → AllByRecursion (IsSaidOf policy) stamps → entry < length stamps → stamp_at stamps entry ≡ Some t → IsSaid policy t
said_at policy stamps entry t all less there =
    let o : Option TimeStamp = stamp_at stamps entry in
    subst (IsSaidOf policy) there (all_at (IsSaidOf policy) stamps entry o all (slice_get-get_or stamps entry None less))

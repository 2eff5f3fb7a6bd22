-- An entry without a tree changes no row.
use Rattle.std.proofs.Common.{◌≡◌, ℕ, ◌+◌, ◌≤◌, List, [], ◌∷◌, ◌++◌, length, map, None, sym, ap, subst, ◌∙◌, arith}
use Rattle.std.specs.List.{AllByRecursion}
use Rattle.std.proofs.lemmas.List.{length-append}
use Rattle.archive_chain.specs.Kept.{Cover, cohort_of}
use Rattle.archive_chain.specs.InsideRows.{Row as Chain, sealed_by, AreRows}
use Rattle.archive_chain.specs.InsideIndex.{IsIndexed}
use Rattle.archive_chain.specs.InsidePeak.{IsTop}
use Rattle.archive_chain.specs.declared.row.Row.{Row}
use Rattle.archive_chain.specs.InsideTable.{Stamps, bones_of, rows_seen, sealed_in, RowsAscend, IsKnown, IsTable}
use Rattle.archive_chain.proofs.Growing.{all_weaker, rows_stay, known_more}
use Rattle.archive_chain.proofs.Treed.{treed_more}
use Rattle.archive_chain.proofs.Cohorts.{indexed_more}

module _ (stamps : Stamps) (rows : List Row) (firsts : List ℕ) (pending : ℕ) (old : IsTable stamps rows firsts pending)
    (stamps_new : Stamps) (s : stamps_new ≡ stamps ++ None ∷ []) where
  abbrev more : Stamps
  more = stamps ++ None ∷ []

  seen_same : rows_seen more rows ≡ rows_seen stamps rows
  seen_same = rows_stay stamps None rows old.known

  same : sealed_in more rows firsts ≡ sealed_in stamps rows firsts
  same = ap (λ (table : List Chain). sealed_by table 0 firsts) seen_same

  pub passed_sealed : sealed_in stamps_new rows firsts ≡ sealed_in stamps rows firsts
  passed_sealed = ap (λ (x : Stamps). sealed_in x rows firsts) s ∙ same

  pub passed_length : length stamps_new ≡ length stamps + 1
  passed_length = ap (λ (x : Stamps). length x) s ∙ length-append stamps (None ∷ [])

  pub passed_table : (waiting : ℕ) → length firsts + waiting ≤ 65536 → IsTable stamps_new rows firsts waiting
  passed_table waiting few =
      let further : length more ≡ length stamps + 1 = length-append stamps (None ∷ []) in
      let no_more = old.no_more in
      let indexed : IsIndexed (map bones_of rows) firsts (map cohort_of (sealed_in stamps rows firsts)) (length stamps + 1) =
      indexed_more (map bones_of rows) firsts (map cohort_of (sealed_in stamps rows firsts)) (length stamps) old.indexed in
      subst (λ (x : Stamps). IsTable x rows firsts waiting) (sym s) (record {
        few = few;
        are_rows = subst (AreRows 0 (length rows)) (sym seen_same) old.are_rows;
        starts = old.starts;
        short = subst (AllByRecursion (λ (covers : List Cover). length covers ≤ 200)) (sym same) old.short;
        known = subst (λ (n : ℕ). AllByRecursion (IsKnown n) rows) (sym further)
            (all_weaker (IsKnown (length stamps)) (IsKnown (length stamps + 1)) rows (λ r h. known_more (length stamps) (length stamps + 1) r (omega arith) h) old.known);
        no_more = omega (arith, further, no_more);
        ascend = subst RowsAscend (sym seen_same) old.ascend;
        treed = treed_more stamps None rows old.treed;
        peaks = subst (λ (g : List (List Cover)). AllByRecursion (IsTop g) (rows_seen more rows)) (sym same)
            (subst (AllByRecursion (IsTop (sealed_in stamps rows firsts))) (sym seen_same) old.peaks);
        indexed = subst (λ (g : List (List Cover)). IsIndexed (map bones_of rows) firsts (map cohort_of g) (length more)) (sym same)
            (subst (IsIndexed (map bones_of rows) firsts (map cohort_of (sealed_in stamps rows firsts))) (sym further) indexed);
      })

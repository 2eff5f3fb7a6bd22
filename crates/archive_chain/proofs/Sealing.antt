-- A Seal is one time-stamp and one row more.
use Rattle.std.proofs.Common.{◌≡◌, ℕ, zero, suc, ◌+◌, ◌-◌, ◌<◌, ◌≤◌, true, List, [], ◌∷◌, ◌++◌, length, map, Some, None, refl, sym, ap, subst, ◌∙◌, arith}
use Rattle.std.specs.Prelude.{replicate}
use Rattle.std.specs.List.{AllByRecursion, range_with_len}
use Rattle.std.proofs.lemmas.List.{length-append, length-map, map-append, length-replicate}
use Rattle.archive_chain.specs.Kept.{Cover, cohort_of}
use Rattle.archive_chain.specs.Steps.{cover_at, sealed_from}
use Rattle.archive_chain.specs.InsideRows.{Row as Chain, sealed_by, AreRows, row_of, with_seal}
use Rattle.archive_chain.proofs.RowsSealing.{sealing}
use Rattle.archive_chain.specs.declared.time_stamp.TimeStamp.{TimeStamp}
use Rattle.archive_chain.specs.declared.row.Row.{Row}
use Rattle.archive_chain.specs.declared.row.Later.{Later}
use Rattle.archive_chain.specs.InsideTable.{Stamps, stamp_at, alg_in, token_in, later_seen, ids_seen, row_seen, rows_seen, sealed_in, RowsAscend, bones_of, IsKnown, IsTreed, IsTable}
use Rattle.archive_chain.proofs.Treed.{treed_more, treed_new, run_rises}
use Rattle.archive_chain.specs.InsideIndex.{Bones, IsIndexed}
use Rattle.archive_chain.proofs.Walking.{sealed_length}
use Rattle.archive_chain.specs.InsidePeak.{IsTop}
use Rattle.archive_chain.proofs.Indexing.{seal_indexed}
use Rattle.archive_chain.proofs.Tops.{sealed_tops, sealed_new, each_below}
use Rattle.archive_chain.proofs.Cohorts.{cohorts_sealed, bones_below, bones_within}
use Rattle.archive_chain.proofs.Growing.{all_append, all_weaker, all_copies, stamp_comes, rows_stay, known_more, one_row, ascend_end, entries_below}

run_length : (first count : ℕ) → length (range_with_len first count) ≡ count
run_length first zero = refl
run_length first (suc count) = ap suc (run_length (first + 1) count)

pub short_seals : (cover : ℕ → Cover) (place n : ℕ) → AllByRecursion (λ (covers : List Cover). length covers ≤ 200) (sealed_from cover place n)
short_seals cover place zero = tt
short_seals cover place (suc n) = (omega arith, short_seals cover (place + 1) n)

module _ (stamps : Stamps) (rows : List Row) (firsts : List ℕ) (pending : ℕ) (old : IsTable stamps rows firsts pending)
    (t : TimeStamp) (row : Row) (count : ℕ) (entry : row.stamp ≡ length stamps) (members : ids_seen row.members ≡ range_with_len (length firsts) count)
    (alone : row.later.items ≡ []) (open_ : row.next ≡ None) (some : count ≤ pending)
    (alg_is : t.tree.alg ≡ t.alg) (leaves_are : length t.tree.leaves ≡ count) (token_short : length t.token ≤ 65536) (positive : 0 < count) (most_is : row.most ≡ 1) (least_is : row.least ≡ length firsts) where
  abbrev more : Stamps
  more = stamps ++ Some t ∷ []

  row_is : row_seen more row ≡ row_of (length stamps) t.alg t.token (range_with_len (length firsts) count) 1 (length firsts)
  row_is =
      let at : stamp_at more row.stamp ≡ Some t = ap (stamp_at more) entry ∙ stamp_comes stamps (Some t) in
      let later : map (later_seen more) row.later.items ≡ [] = ap (map (later_seen more)) alone in
      (λ i. record { entry = entry i; alg = alg_in (at i); token = token_in (at i); members = members i; later = later i; next = open_ i; most = most_is i; least = least_is i })

  table_is : rows_seen more (rows ++ row ∷ []) ≡ with_seal (rows_seen stamps rows) (length stamps) t.alg t.token (length firsts) count
  table_is = map-append (row_seen more) rows (row ∷ []) ∙ (λ i. rows_stay stamps (Some t) rows old.known i ++ row_is i ∷ [])

  count_rows : length (rows_seen stamps rows) ≡ length rows
  count_rows = length-map rows (row_seen stamps)

  good_seen : AreRows 0 (length (rows_seen stamps rows)) (rows_seen stamps rows)
  good_seen = subst (λ (n : ℕ). AreRows 0 n (rows_seen stamps rows)) (sym count_rows) old.are_rows

  starts_seen : AllByRecursion (λ first. first < length (rows_seen stamps rows)) firsts
  starts_seen = subst (λ (n : ℕ). AllByRecursion (λ first. first < n) firsts) (sym count_rows) old.starts

  abbrev grown : List (List Cover)
  grown = sealed_in stamps rows firsts ++ sealed_from (cover_at (length stamps) true t.alg t.token) 0 count

  pub sealed_is : sealed_in more (rows ++ row ∷ []) (firsts ++ replicate count (length rows))
      ≡ sealed_in stamps rows firsts ++ sealed_from (cover_at (length stamps) true t.alg t.token) 0 count
  sealed_is =
      (let same = sym count_rows in (λ i. sealed_by (table_is i) 0 (firsts ++ replicate count (same i))))
      ∙ sealing (rows_seen stamps rows) firsts (length stamps) t.alg t.token count good_seen starts_seen

  pub table_after : IsTable more (rows ++ row ∷ []) (firsts ++ replicate count (length rows)) (pending - count)
  table_after =
      let many : length (firsts ++ replicate count (length rows)) ≡ length firsts + count = length-append firsts (replicate count (length rows)) ∙ ap (λ (n : ℕ). length firsts + n) (length-replicate count (length rows)) in
      let longer : length (rows ++ row ∷ []) ≡ length rows + 1 = length-append rows (row ∷ []) in
      let further : length more ≡ length stamps + 1 = length-append stamps (Some t ∷ []) in
      let few = old.few in
      let no_more = old.no_more in
      let alone_seen : map (later_seen more) row.later.items ≡ [] = ap (map (later_seen more)) alone in
      let is : AreRows 0 (length rows + 1) (rows_seen stamps rows ++ row_seen more row ∷ []) = one_row (rows_seen stamps rows) (row_seen more row) 0 (length rows) open_ alone_seen old.are_rows in
      let same : rows_seen more (rows ++ row ∷ []) ≡ rows_seen stamps rows ++ row_seen more row ∷ [] =
      map-append (row_seen more) rows (row ∷ []) ∙ ap (λ (xs : List Chain). xs ++ row_seen more row ∷ []) (rows_stay stamps (Some t) rows old.known) in record {
        few = omega (arith, few, some, many);
        are_rows = subst (λ (n : ℕ). AreRows 0 n (rows_seen more (rows ++ row ∷ []))) (sym longer) (subst (AreRows 0 (length rows + 1)) (sym same) is);
        starts = subst (λ (n : ℕ). AllByRecursion (λ first. first < n) (firsts ++ replicate count (length rows))) (sym longer)
            (all_append (λ first. first < length rows + 1) firsts (replicate count (length rows))
            (all_weaker (λ first. first < length rows) (λ first. first < length rows + 1) firsts (λ x h. omega (arith, h)) old.starts)
            (all_copies (λ first. first < length rows + 1) count (length rows) (omega arith)));
        short = subst (AllByRecursion (λ (covers : List Cover). length covers ≤ 200)) (sym sealed_is)
            (all_append (λ (covers : List Cover). length covers ≤ 200) (sealed_in stamps rows firsts) (sealed_from (cover_at (length stamps) true t.alg t.token) 0 count)
            old.short (short_seals (cover_at (length stamps) true t.alg t.token) 0 count));
        known = subst (λ (n : ℕ). AllByRecursion (IsKnown n) (rows ++ row ∷ [])) (sym further)
            (all_append (IsKnown (length stamps + 1)) rows (row ∷ [])
            (all_weaker (IsKnown (length stamps)) (IsKnown (length stamps + 1)) rows (λ r h. known_more (length stamps) (length stamps + 1) r (omega arith) h) old.known)
            (record { stamp = omega (arith, entry); later = subst (AllByRecursion (λ (l : Later). l.stamp < length stamps + 1)) (sym alone) tt }, tt));
        no_more = omega (arith, longer, further, no_more);
        ascend = subst RowsAscend (sym same) (ascend_end (rows_seen stamps rows) (row_seen more row) old.ascend
            (subst (λ (n : ℕ). AllByRecursion (λ (r : Chain). r.entry < n) (rows_seen stamps rows)) (sym entry) (entries_below stamps (length stamps) rows old.known)));
        treed = all_append (IsTreed more) rows (row ∷ []) (treed_more stamps (Some t) rows old.treed) (
          let run : length (range_with_len (length firsts) count) ≡ count = run_length (length firsts) count in
              treed_new stamps t row (range_with_len (length firsts) count) (record { few_leaves = omega (arith, leaves_are, few, some); short_token = token_short }) entry alone members alg_is (leaves_are ∙ sym run) (omega (arith, run, few, some)) (run_rises (length firsts) count),
          tt,
        );
        peaks = subst (AllByRecursion (IsTop (sealed_in more (rows ++ row ∷ []) (firsts ++ replicate count (length rows))))) (sym same)
            (subst (λ (g : List (List Cover)). AllByRecursion (IsTop g) (rows_seen stamps rows ++ row_seen more row ∷ [])) (sym sealed_is)
            (all_append (IsTop grown) (rows_seen stamps rows) (row_seen more row ∷ [])
            (sealed_tops (length stamps) t.alg t.token (sealed_in stamps rows firsts) count (rows_seen stamps rows) (entries_below stamps (length stamps) rows old.known) old.peaks) (
              sealed_new (length stamps) t.alg t.token (sealed_in stamps rows firsts) count (row_seen more row) (each_below (length stamps) (sealed_in stamps rows firsts) old.indexed.below) positive entry most_is
                  (least_is ∙ sym (sealed_length (rows_seen stamps rows) 0 firsts)),
              tt,
            )));
        indexed =
            let many = length-map rows bones_of in
            let groups : length (map cohort_of (sealed_in stamps rows firsts)) ≡ length firsts = length-map (sealed_in stamps rows firsts) cohort_of ∙ sealed_length (rows_seen stamps rows) 0 firsts in
            let is : IsIndexed (map bones_of rows ++ bones_of row ∷ []) (firsts ++ replicate count (length (map bones_of rows))) (map cohort_of (sealed_in stamps rows firsts) ++ replicate count (length stamps)) (length stamps + 1) =
            seal_indexed (map bones_of rows) firsts (map cohort_of (sealed_in stamps rows firsts)) (length stamps) count (bones_of row) old.indexed groups
            (bones_below (length stamps) rows old.known) (subst (λ (n : ℕ). AllByRecursion (λ first. first < n) firsts) (sym many) old.starts) (bones_within stamps rows old.are_rows) entry members open_ in
            let bones : map bones_of (rows ++ row ∷ []) ≡ map bones_of rows ++ bones_of row ∷ [] = map-append bones_of rows (row ∷ []) in
            let cohorts : map cohort_of (sealed_in more (rows ++ row ∷ []) (firsts ++ replicate count (length rows))) ≡ map cohort_of (sealed_in stamps rows firsts) ++ replicate count (length stamps) =
            ap (map cohort_of) sealed_is ∙ cohorts_sealed (length stamps) t.alg t.token 0 count (sealed_in stamps rows firsts) in
            subst (λ (x : List Bones). IsIndexed x (firsts ++ replicate count (length rows)) (map cohort_of (sealed_in more (rows ++ row ∷ []) (firsts ++ replicate count (length rows)))) (length more)) (sym bones)
            (subst (λ (x : List ℕ). IsIndexed (map bones_of rows ++ bones_of row ∷ []) (firsts ++ replicate count (length rows)) x (length more)) (sym cohorts)
            (subst (λ (x : ℕ). IsIndexed (map bones_of rows ++ bones_of row ∷ []) (firsts ++ replicate count (length rows)) (map cohort_of (sealed_in stamps rows firsts) ++ replicate count (length stamps)) x) (sym further)
            (subst (λ (x : ℕ). IsIndexed (map bones_of rows ++ bones_of row ∷ []) (firsts ++ replicate count x) (map cohort_of (sealed_in stamps rows firsts) ++ replicate count (length stamps)) (length stamps + 1)) many is)));
      }

  -- what the Vecs hold afterwards
  module _ (stamps_new : Stamps) (rows_new : List Row) (firsts_new : List ℕ) (place : ℕ) (s : stamps_new ≡ more) (r : rows_new ≡ rows ++ row ∷ [])
      (f : firsts_new ≡ firsts ++ replicate count place) (here : place ≡ length rows) where
    pub sealed_got : sealed_in stamps_new rows_new firsts_new ≡ sealed_in stamps rows firsts ++ sealed_from (cover_at (length stamps) true t.alg t.token) 0 count
    sealed_got = (λ i. sealed_in (s i) (r i) (f i)) ∙ ap (λ (p : ℕ). sealed_in more (rows ++ row ∷ []) (firsts ++ replicate count p)) here ∙ sealed_is

    pub table_got : IsTable stamps_new rows_new firsts_new (pending - count)
    table_got =
        let last : firsts_new ≡ firsts ++ replicate count (length rows) = f ∙ ap (λ (p : ℕ). firsts ++ replicate count p) here in
        subst (λ (x : Stamps). IsTable x rows_new firsts_new (pending - count)) (sym s)
        (subst (λ (x : List Row). IsTable more x firsts_new (pending - count)) (sym r)
        (subst (λ (x : List ℕ). IsTable more (rows ++ row ∷ []) x (pending - count)) (sym last) table_after))

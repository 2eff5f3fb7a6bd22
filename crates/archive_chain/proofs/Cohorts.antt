-- The cohorts of all groups after each kind of entry, and the rows without their time-stamps.
use Rattle.std.proofs.Common.{◌≡◌, ℕ, zero, suc, ◌+◌, ◌<◌, Bool, true, false, List, [], ◌∷◌, ◌++◌, length, map, Some, refl, sym, ap, subst, ◌∙◌, arith}
use Rattle.std.specs.Prelude.{slice_get, replicate, if◌then◌else◌}
use Rattle.std.specs.List.{AllByRecursion}
use Rattle.std.proofs.lemmas.List.{length-map}
use Rattle.hash_kit.specs.declared.algorithm.HashAlg.{HashAlg}
use Rattle.archive_chain.specs.Kept.{Cover, cohort_of, is_in, ids_in, place_of}
use Rattle.archive_chain.specs.Steps.{cover_at, sealed_from, renewed_from, stamped_in}
use Rattle.archive_chain.specs.InsideRows.{Row as Chain, GoesOn, AreRows, taken, stamped}
use Rattle.archive_chain.proofs.RowsRenewing.{by_test, cohort_append}
use Rattle.archive_chain.specs.declared.row.Row.{Row}
use Rattle.archive_chain.specs.InsideIndex.{Bones, ids_by, taken_bones, renamed, IsIndexed}
use Rattle.archive_chain.specs.InsideTable.{Stamps, row_seen, rows_seen, bones_of, IsKnown}
use Rattle.archive_chain.proofs.Growing.{all_weaker}
use Rattle.archive_chain.proofs.Walking.{get_map, next_within}
use Rattle.archive_chain.proofs.Indexing.{got_map}

-- ---- of all groups

pub ids_same : (names : List ℕ) (id : ℕ) (groups : List (List Cover)) → ids_in names id groups ≡ ids_by names id (map cohort_of groups)
ids_same names id [] = refl
ids_same names id (g ∷ groups) = ap (λ (l : List ℕ). if is_in names g then id ∷ l else l) (ids_same names (id + 1) groups)

pub cohorts_sealed : (n : ℕ) (alg : HashAlg) (token : List ℕ) (place count : ℕ) (groups : List (List Cover))
    → map cohort_of (groups ++ sealed_from (cover_at n true alg token) place count) ≡ map cohort_of groups ++ replicate count n
cohorts_sealed n alg token place zero [] = refl
cohorts_sealed n alg token place (suc count) [] = ap (λ (l : List ℕ). n ∷ l) (cohorts_sealed n alg token (place + 1) count [])
cohorts_sealed n alg token place count (g ∷ groups) = ap (λ (l : List ℕ). cohort_of g ∷ l) (cohorts_sealed n alg token place count groups)

pub cohorts_stamped : (n : ℕ) (alg : HashAlg) (token : List ℕ) (named : List ℕ) (groups : List (List Cover))
    → map cohort_of (map (stamped_in (cover_at n false alg token) named) groups) ≡ map cohort_of groups
cohorts_stamped n alg token named [] = refl
cohorts_stamped n alg token named (g ∷ groups) =
    let one : cohort_of (stamped_in (cover_at n false alg token) named g) ≡ cohort_of g =
    by_test (is_in named g)
    (λ t. ap (λ (b : Bool). cohort_of (if b then g ++ cover_at n false alg token (place_of named (cohort_of g)) ∷ [] else g)) t ∙ cohort_append 0 g (cover_at n false alg token (place_of named (cohort_of g)) ∷ []))
    (λ f. ap (λ (b : Bool). cohort_of (if b then g ++ cover_at n false alg token (place_of named (cohort_of g)) ∷ [] else g)) f) in
    (λ i. one i ∷ cohorts_stamped n alg token named groups i)

pub cohorts_renewed : (n : ℕ) (alg : HashAlg) (token : List ℕ) (named : List ℕ) (place : ℕ) (groups : List (List Cover))
    → map cohort_of (renewed_from (cover_at n true alg token) named place groups) ≡ map (renamed named n) (map cohort_of groups)
cohorts_renewed n alg token named place [] = refl
cohorts_renewed n alg token named place (g ∷ groups) =
    by_test (is_in named g)
    (λ t.
    ap (λ (b : Bool). map cohort_of (if b then (g ++ cover_at n true alg token place ∷ []) ∷ renewed_from (cover_at n true alg token) named (place + 1) groups else g ∷ renewed_from (cover_at n true alg token) named place groups)) t
    ∙ (λ i. cohort_append 0 g (cover_at n true alg token place ∷ []) i ∷ cohorts_renewed n alg token named (place + 1) groups i)
    ∙ sym (ap (λ (b : Bool). (if b then n else cohort_of g) ∷ map (renamed named n) (map cohort_of groups)) t))
    (λ f.
    ap (λ (b : Bool). map cohort_of (if b then (g ++ cover_at n true alg token place ∷ []) ∷ renewed_from (cover_at n true alg token) named (place + 1) groups else g ∷ renewed_from (cover_at n true alg token) named place groups)) f
    ∙ (λ i. cohort_of g ∷ cohorts_renewed n alg token named place groups i)
    ∙ sym (ap (λ (b : Bool). (if b then n else cohort_of g) ∷ map (renamed named n) (map cohort_of groups)) f))

-- ---- of all rows

abbrev pub bones_in : Chain → Bones
bones_in c = record { stamp = c.entry; members = c.members; next = c.next }

pub bones_seen : (stamps : Stamps) (rows : List Row) → map bones_of rows ≡ map bones_in (rows_seen stamps rows)
bones_seen stamps [] = refl
bones_seen stamps (r ∷ rows) = ap (λ (l : List Bones). bones_of r ∷ l) (bones_seen stamps rows)

pub bones_taken : (named : List ℕ) (n : ℕ) (rows : List Chain) → map bones_in (map (taken named n) rows) ≡ map (taken_bones named n) (map bones_in rows)
bones_taken named n [] = refl
bones_taken named n (r ∷ rows) = ap (λ (l : List Bones). bones_in (taken named n r) ∷ l) (bones_taken named n rows)

pub bones_stamped : (cover : ℕ → Cover) (named : List ℕ) (rows : List Chain) → map bones_in (map (stamped cover named) rows) ≡ map bones_in rows
bones_stamped cover named [] = refl
bones_stamped cover named (r ∷ rows) = ap (λ (l : List Bones). bones_in r ∷ l) (bones_stamped cover named rows)

pub bones_below : (n : ℕ) (rows : List Row) → AllByRecursion (IsKnown n) rows → AllByRecursion (λ (b : Bones). b.stamp < n) (map bones_of rows)
bones_below n [] known = tt
bones_below n (r ∷ rows) known = (known.0.stamp, bones_below n rows known.1)

pub bones_within : (stamps : Stamps) (rows : List Row) → AreRows 0 (length rows) (rows_seen stamps rows) → (p w : ℕ) (b : Bones) → slice_get (map bones_of rows) p ≡ Some b → b.next ≡ Some w → w < length (map bones_of rows)
bones_within stamps rows good p w b at goes =
    let row = got_map bones_of rows p b at in
    let seen = rows_seen stamps rows in
    let many : length rows ≡ length seen = sym (length-map rows (row_seen stamps)) in
    let on : GoesOn p (length seen) row.0.next = next_within p seen (row_seen stamps row.0) (subst (λ (n : ℕ). AreRows 0 n seen) many good) (get_map (row_seen stamps) rows p row.0 row.1) in
    let next : row.0.next ≡ Some w = sym (ap (λ (x : Bones). x.next) row.2) ∙ goes in
    let here : GoesOn p (length seen) (Some w) = subst (GoesOn p (length seen)) next on in
    let less = here.1 in
    let all = length-map rows bones_of in
    omega (arith, less, many, all)

pub indexed_more : (table : List Bones) (firsts cohorts : List ℕ) (n : ℕ) → IsIndexed table firsts cohorts n → IsIndexed table firsts cohorts (n + 1)
indexed_more table firsts cohorts n old = record {
  below = all_weaker (λ c. c < n) (λ c. c < n + 1) cohorts (λ c h. omega (arith, h)) old.below;
  live = old.live;
  seals = old.seals;
  nexts = old.nexts;
}

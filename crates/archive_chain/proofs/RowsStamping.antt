-- A further time-stamp in the rows of some cohorts is one of each of their groups.
use Rattle.std.proofs.Common.{◌≡◌, ℕ, ◌+◌, ◌<◌, ◌≤◌, Bool, false, List, [], ◌∷◌, ◌++◌, length, map, Option, Some, None, refl, sym, ap, subst, ◌∙◌, arith, append_assoc, append-nil}
use Rattle.std.specs.Prelude.{◌==◌, if◌then◌else◌}
use Rattle.std.specs.List.{AllByRecursion}
use Rattle.std.proofs.lemmas.Bool.{eqb-true, eq-eqb}
use Rattle.hash_kit.specs.declared.algorithm.HashAlg.{HashAlg}
use Rattle.archive_chain.specs.Kept.{Cover, cohort_after, cohort_of, has_name, is_in, place_of}
use Rattle.archive_chain.specs.Steps.{cover_at, stamped_in}
use Rattle.archive_chain.specs.InsideRows.{Row, begun, walk, sealed_by, GoesOn, IsRow, AreRows, later_after, stamped}
use Rattle.archive_chain.proofs.RowsRenewing.{by_test, cohort_append, cohort_later, Begins, nothing, walk_here, walk_later, walk_begins}

module _ (cover : ℕ → Cover) (named : List ℕ) (n : ℕ) (id : ℕ) where
  abbrev more : List Cover → List Cover
  more covers = stamped_in cover named covers

  abbrev all : List Row → List Row
  all rows = map (stamped cover named) rows

  abbrev front : Row → List Cover → List Cover
  front row covers = begun row id ∷ (row.later ++ covers)

  more_in_front : (row : Row) (covers : List Cover) → Begins covers → front row (more covers) ≡ more (front row covers)
  more_in_front row covers begins =
      let name : ℕ = cohort_after row.entry row.later in
      let same : cohort_of (front row covers) ≡ cohort_of covers = cohort_append row.entry row.later covers ∙ begins name 0 in
      let longer : front row covers ++ cover (place_of named (cohort_of (front row covers))) ∷ [] ≡ front row (covers ++ cover (place_of named (cohort_of covers)) ∷ []) =
      ap (λ (l : List Cover). begun row id ∷ l) (append_assoc row.later covers (cover (place_of named (cohort_of (front row covers))) ∷ []))
      ∙ ap (λ (k : ℕ). front row (covers ++ cover (place_of named k) ∷ [])) same in
      by_test (is_in named covers)
      (λ e.
      ap (λ (b : Bool). front row (if b then covers ++ cover (place_of named (cohort_of covers)) ∷ [] else covers)) e
      ∙ sym (ap (λ (b : Bool). if b then front row covers ++ cover (place_of named (cohort_of (front row covers))) ∷ [] else front row covers) (ap (has_name named) same ∙ e) ∙ longer))
      (λ e.
      ap (λ (b : Bool). front row (if b then covers ++ cover (place_of named (cohort_of covers)) ∷ [] else covers)) e
      ∙ sym (ap (λ (b : Bool). if b then front row covers ++ cover (place_of named (cohort_of (front row covers))) ∷ [] else front row covers) (ap (has_name named) same ∙ e)))

  Grown : ℕ → ℕ → List Row → Type 0
  Grown at w rows = walk id at (Some w) (all rows) ≡ more (walk id at (Some w) rows)

  here : (row : Row) (rows : List Row) (at : ℕ) (next : Option ℕ) → row.next ≡ next → n ≡ at + 1 + length rows → IsRow at n row
      → ((w : ℕ) → at + 1 ≤ w → w < n → Grown (at + 1) w rows)
      → begun row id ∷ (later_after cover named row.entry row.later next ++ walk id (at + 1) next (all rows)) ≡ more (front row (walk id (at + 1) next rows))
  unfolding Grown
  here row rows at None is e good rest =
      let old : front row (walk id (at + 1) None rows) ≡ front row [] = ap (front row) (nothing id (at + 1) rows) in
      let name : cohort_of (front row []) ≡ row.entry = ap (cohort_after row.entry) (append-nil row.later) ∙ cohort_later row.entry row.later good.later in
      let last : Cover = cover (place_of named row.entry) in
      by_test (has_name named row.entry)
      (λ b.
      ap (λ (t : Bool). begun row id ∷ ((if t then row.later ++ last ∷ [] else row.later) ++ walk id (at + 1) None (all rows))) b
      ∙ ap (λ (l : List Cover). begun row id ∷ ((row.later ++ last ∷ []) ++ l)) (nothing id (at + 1) (all rows))
      ∙ ap (λ (l : List Cover). begun row id ∷ l) (append-nil (row.later ++ last ∷ []))
      ∙ ap (λ (l : List Cover). begun row id ∷ (l ++ last ∷ [])) (sym (append-nil row.later))
      ∙ ap (λ (k : ℕ). front row [] ++ cover (place_of named k) ∷ []) (sym name)
      ∙ sym (ap more old ∙ ap (λ (t : Bool). if t then front row [] ++ cover (place_of named (cohort_of (front row []))) ∷ [] else front row []) (ap (has_name named) name ∙ b)))
      (λ b.
      ap (λ (t : Bool). begun row id ∷ ((if t then row.later ++ last ∷ [] else row.later) ++ walk id (at + 1) None (all rows))) b
      ∙ ap (front row) (nothing id (at + 1) (all rows))
      ∙ sym (ap more old ∙ ap (λ (t : Bool). if t then front row [] ++ cover (place_of named (cohort_of (front row []))) ∷ [] else front row []) (ap (has_name named) name ∙ b)))
  here row rows at (Some m) is e good rest =
      let goes : GoesOn at n (Some m) = subst (GoesOn at n) is good.goes_on in
      ap (front row) (rest m (omega (arith, goes.0)) goes.1)
      ∙ more_in_front row (walk id (at + 1) (Some m) rows) (walk_begins id (at + 1) m rows (omega (arith, goes.0)) (omega (arith, goes.1, e)))

  grown : (rows : List Row) (at : ℕ) → n ≡ at + length rows → AreRows at n rows → (w : ℕ) → at ≤ w → w < n → Grown at w rows
  unfolding Grown
  grown [] at e good w low high = absurd (omega (arith, e, low, high))
  grown (row ∷ rows) at e good w low high =
      by_test (w == at)
      (λ t.
      let same = eqb-true w at t in
      walk_here id at w (stamped cover named row) (all rows) same
      ∙ here row rows at row.next refl (omega (arith, e)) good.0 (grown rows (at + 1) (omega (arith, e)) good.1)
      ∙ sym (ap more (walk_here id at w row rows same)))
      (λ t.
      let apart : w ≡ at → ⊥ = λ same. let f = sym (eq-eqb w at same) ∙ t in cc in
      walk_later id at w (stamped cover named row) (all rows) apart
      ∙ grown rows (at + 1) (omega (arith, e)) good.1 w (omega (arith, low, apart)) high
      ∙ sym (ap more (walk_later id at w row rows apart)))

module _ (rows : List Row) (named : List ℕ) (cover : ℕ → Cover) (good : AreRows 0 (length rows) rows) where
  each : (firsts : List ℕ) (id : ℕ) → AllByRecursion (λ first. first < length rows) firsts
      → sealed_by (map (stamped cover named) rows) id firsts ≡ map (stamped_in cover named) (sealed_by rows id firsts)
  unfolding Grown
  each [] id known = refl
  each (first ∷ firsts) id known =
      ap (λ (l : List Cover). l ∷ sealed_by (map (stamped cover named) rows) (id + 1) firsts) (grown cover named (length rows) id rows 0 (omega arith) good first (omega arith) known.0)
      ∙ ap (λ (l : List (List Cover)). stamped_in cover named (walk id 0 (Some first) rows) ∷ l) (each firsts (id + 1) known.1)

pub stamping : (rows : List Row) (firsts named : List ℕ) (entry : ℕ) (alg : HashAlg) (token : List ℕ) → AreRows 0 (length rows) rows → AllByRecursion (λ first. first < length rows) firsts
    → sealed_by (map (stamped (cover_at entry false alg token) named) rows) 0 firsts ≡ map (stamped_in (cover_at entry false alg token) named) (sealed_by rows 0 firsts)
stamping rows firsts named entry alg token good known = each rows named (cover_at entry false alg token) good firsts 0 known

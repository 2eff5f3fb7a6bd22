-- A further row is the first time-stamp of so many further groups.
use Rattle.std.proofs.Common.{◌≡◌, ℕ, zero, suc, ◌+◌, ◌<◌, ◌≤◌, Bool, true, List, [], ◌∷◌, ◌++◌, length, Option, Some, None, refl, sym, ap, ◌∙◌, arith}
use Rattle.std.specs.Prelude.{◌==◌, replicate, if◌then◌else◌}
use Rattle.std.specs.List.{AllByRecursion, range_with_len}
use Rattle.std.proofs.lemmas.Bool.{eqb-true, eq-eqb, ne_eqb}
use Rattle.hash_kit.specs.declared.algorithm.HashAlg.{HashAlg}
use Rattle.archive_chain.specs.Kept.{Cover, place_of}
use Rattle.archive_chain.specs.Steps.{cover_at, sealed_from}
use Rattle.archive_chain.specs.InsideRows.{Row, begun, walk, sealed_by, GoesOn, AreRows, row_of, with_seal, more_firsts}
use Rattle.archive_chain.proofs.RowsRenewing.{by_test, nothing, walk_here, walk_later}

-- a place in a run of numbers
place_in_run : (first count j : ℕ) → j < count → place_of (range_with_len first count) (first + j) ≡ j
place_in_run first zero j h = absurd (omega (arith, h))
place_in_run first (suc count) zero h =
    ap (λ (b : Bool). if b then 0 else suc (place_of (range_with_len (first + 1) count) (first + 0))) (eq-eqb first (first + 0) (omega arith))
place_in_run first (suc count) (suc j) h =
    let same : first + suc j ≡ first + 1 + j = omega arith in
    ap (λ (b : Bool). if b then 0 else suc (place_of (range_with_len (first + 1) count) (first + suc j))) (ne_eqb first (first + suc j) (λ e. omega (arith, e)))
    ∙ ap (λ (n : ℕ). suc (place_of (range_with_len (first + 1) count) n)) same ∙ ap suc (place_in_run (first + 1) count j (omega (arith, h)))

module _ (new : Row) where
  abbrev all : List Row → List Row
  all rows = rows ++ new ∷ []

  reach : (id : ℕ) (rows : List Row) (at w : ℕ) → new.later ≡ [] → w ≡ at + length rows → walk id at (Some w) (all rows) ≡ begun new id ∷ []
  reach id [] at w alone e =
      walk_here id at w new [] (omega (arith, e)) ∙ ap (λ (l : List Cover). begun new id ∷ (l ++ [])) alone
  reach id (row ∷ rows) at w alone e =
      walk_later id at w row (all rows) (λ same. omega (arith, e, same)) ∙ reach id rows (at + 1) w alone (omega (arith, e))

  -- a walk that ends before is the same
  same_next : (id : ℕ) (rows : List Row) (at n : ℕ) (next : Option ℕ) → GoesOn at n next → ((w : ℕ) → at + 1 ≤ w → w < n → walk id (at + 1) (Some w) (all rows) ≡ walk id (at + 1) (Some w) rows)
      → walk id (at + 1) next (all rows) ≡ walk id (at + 1) next rows
  same_next id rows at n None goes rest = nothing id (at + 1) (all rows) ∙ sym (nothing id (at + 1) rows)
  same_next id rows at n (Some m) goes rest = rest m (omega (arith, goes.0)) goes.1

  same_walk : (id : ℕ) (rows : List Row) (at n : ℕ) → n ≡ at + length rows → AreRows at n rows → (w : ℕ) → at ≤ w → w < n → walk id at (Some w) (all rows) ≡ walk id at (Some w) rows
  same_walk id [] at n e good w low high = absurd (omega (arith, e, low, high))
  same_walk id (row ∷ rows) at n e good w low high =
      let rest = same_walk id rows (at + 1) n (omega (arith, e)) good.1 in
      by_test (w == at)
      (λ t.
      let same = eqb-true w at t in
      walk_here id at w row (all rows) same
      ∙ ap (λ (l : List Cover). begun row id ∷ (row.later ++ l)) (same_next id rows at n row.next good.0.goes_on rest)
      ∙ sym (walk_here id at w row rows same))
      (λ t.
      let apart : w ≡ at → ⊥ = λ same. let f = sym (eq-eqb w at same) ∙ t in cc in
      walk_later id at w row (all rows) apart ∙ rest w (omega (arith, low, apart)) high ∙ sym (walk_later id at w row rows apart))

module _ (rows : List Row) (entry : ℕ) (alg : HashAlg) (token : List ℕ) (begin count : ℕ) (good : AreRows 0 (length rows) rows) where
  abbrev sealed : List Row
  sealed = with_seal rows entry alg token begin count

  abbrev cover : ℕ → Cover
  cover place = cover_at entry true alg token place

  -- the groups of the seal, from the one at this place on
  further : (left place : ℕ) → place + left ≡ count → sealed_by sealed (begin + place) (replicate left (length rows)) ≡ sealed_from cover place left
  further zero place e = refl
  further (suc left) place e =
      let here : walk (begin + place) 0 (Some (length rows)) sealed ≡ cover place ∷ [] =
      reach (row_of entry alg token (range_with_len begin count) 1 begin) (begin + place) rows 0 (length rows) refl (omega arith)
      ∙ ap (λ (p : ℕ). cover p ∷ []) (place_in_run begin count place (omega (arith, e))) in
      let id : begin + place + 1 ≡ begin + (place + 1) = omega arith in
      ap (λ (l : List Cover). l ∷ sealed_by sealed (begin + place + 1) (replicate left (length rows))) here
      ∙ ap (λ (n : ℕ). (cover place ∷ []) ∷ sealed_by sealed n (replicate left (length rows))) id
      ∙ ap (λ (l : List (List Cover)). (cover place ∷ []) ∷ l) (further left (place + 1) (omega (arith, e)))

  each : (firsts : List ℕ) (id : ℕ) → begin ≡ id + length firsts → AllByRecursion (λ first. first < length rows) firsts
      → sealed_by sealed id (firsts ++ replicate count (length rows)) ≡ sealed_by rows id firsts ++ sealed_from cover 0 count
  each [] id e known =
      let same : id ≡ begin + 0 = omega (arith, e) in
      ap (λ (n : ℕ). sealed_by sealed n (replicate count (length rows))) same ∙ further count 0 (omega arith)
  each (first ∷ firsts) id e known =
      ap (λ (l : List Cover). l ∷ sealed_by sealed (id + 1) (firsts ++ replicate count (length rows)))
      (same_walk (row_of entry alg token (range_with_len begin count) 1 begin) id rows 0 (length rows) (omega arith) good first (omega arith) known.0)
      ∙ ap (λ (l : List (List Cover)). walk id 0 (Some first) rows ∷ l) (each firsts (id + 1) (omega (arith, e)) known.1)

pub sealing : (rows : List Row) (firsts : List ℕ) (entry : ℕ) (alg : HashAlg) (token : List ℕ) (count : ℕ) → AreRows 0 (length rows) rows → AllByRecursion (λ first. first < length rows) firsts
    → sealed_by (with_seal rows entry alg token (length firsts) count) 0 (more_firsts rows firsts count) ≡ sealed_by rows 0 firsts ++ sealed_from (cover_at entry true alg token) 0 count
sealing rows firsts entry alg token count good known = each rows entry alg token (length firsts) count good firsts 0 (omega arith) known

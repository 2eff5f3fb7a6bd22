-- A further row is a new chain for each group of the cohorts that lead to it.
use Rattle.std.proofs.Common.{◌≡◌, ℕ, suc, ◌+◌, ◌<◌, ◌≤◌, Bool, true, false, List, [], ◌∷◌, ◌++◌, length, map, Option, Some, None, refl, sym, ap, subst, ◌∙◌, arith, append_assoc, append-nil}
use Rattle.std.specs.Prelude.{◌==◌, if◌then◌else◌}
use Rattle.std.specs.List.{AllByRecursion}
use Rattle.std.proofs.lemmas.Bool.{eqb-true, eq-eqb, ne_eqb}
use Rattle.std.proofs.lemmas.List.{length-append}
use Rattle.hash_kit.specs.declared.algorithm.HashAlg.{HashAlg}
use Rattle.archive_chain.specs.Kept.{Cover, cohort_after, cohort_of, has_name, is_in, place_of, ids_in}
use Rattle.archive_chain.specs.Steps.{cover_at, renewed_from}
use Rattle.archive_chain.specs.InsideRows.{Row, begun, walk, sealed_by, GoesOn, IsRow, AreRows, next_after, taken, with_row, row_of}

pub by_test : {G : Type 0} (b : Bool) → (b ≡ true → G) → (b ≡ false → G) → G
by_test true f g = f refl
by_test false f g = g refl

-- ---- the cohort of a walk

pub cohort_append : (name : ℕ) (xs ys : List Cover) → cohort_after name (xs ++ ys) ≡ cohort_after (cohort_after name xs) ys
cohort_append name [] ys = refl
cohort_append name (c ∷ xs) ys = cohort_append (if c.begins then c.entry else name) xs ys

pub cohort_later : (name : ℕ) (later : List Cover) → AllByRecursion (λ (c : Cover). c.begins ≡ false) later → cohort_after name later ≡ name
cohort_later name [] h = refl
cohort_later name (c ∷ later) h =
    ap (λ (b : Bool). cohort_after (if b then c.entry else name) later) h.0 ∙ cohort_later name later h.1

-- it begins with the begin of a chain, so that what was before doesn't matter
abbrev pub Begins : List Cover → Type 0
Begins covers = (a b : ℕ) → cohort_after a covers ≡ cohort_after b covers

pub nothing : (id at : ℕ) (rows : List Row) → walk id at None rows ≡ []
nothing id at [] = refl
nothing id at (row ∷ rows) = refl

pub walk_here : (id at w : ℕ) (row : Row) (rows : List Row) → w ≡ at → walk id at (Some w) (row ∷ rows) ≡ begun row id ∷ (row.later ++ walk id (at + 1) row.next rows)
walk_here id at w row rows e =
    ap (λ (b : Bool). if b then begun row id ∷ (row.later ++ walk id (at + 1) row.next rows) else walk id (at + 1) (Some w) rows) (eq-eqb w at e)

pub walk_later : (id at w : ℕ) (row : Row) (rows : List Row) → (w ≡ at → ⊥) → walk id at (Some w) (row ∷ rows) ≡ walk id (at + 1) (Some w) rows
walk_later id at w row rows e =
    ap (λ (b : Bool). if b then begun row id ∷ (row.later ++ walk id (at + 1) row.next rows) else walk id (at + 1) (Some w) rows) (ne_eqb w at e)

pub walk_begins : (id at w : ℕ) (rows : List Row) → at ≤ w → w < at + length rows → Begins (walk id at (Some w) rows)
walk_begins id at w [] low high = absurd (omega (arith, low, high))
walk_begins id at w (row ∷ rows) low high = λ a b.
    by_test (w == at)
    (λ e.
    let here = walk_here id at w row rows (eqb-true w at e) in
    ap (cohort_after a) here ∙ sym (ap (cohort_after b) here))
    (λ e.
    let apart : w ≡ at → ⊥ = λ same. let t = sym (eq-eqb w at same) ∙ e in cc in
    let later = walk_later id at w row rows apart in
    let low_here : at + 1 ≤ w = omega (arith, low, apart) in
    ap (cohort_after a) later ∙ walk_begins id (at + 1) w rows low_here (omega (arith, high)) a b ∙ sym (ap (cohort_after b) later))

-- ---- one further row

module _ (named : List ℕ) (n : ℕ) (new : Row) (id : ℕ) (alone : new.later ≡ []) where
  abbrev more : List Cover → List Cover
  more covers = if is_in named covers then covers ++ begun new id ∷ [] else covers

  abbrev all : List Row → List Row
  all rows = map (taken named n) rows ++ new ∷ []

  reach : (rows : List Row) (at w : ℕ) → w ≡ at + length rows → walk id at (Some w) (all rows) ≡ begun new id ∷ []
  reach [] at w e =
      walk_here id at w new [] (omega (arith, e)) ∙ ap (λ (l : List Cover). begun new id ∷ (l ++ [])) alone
  reach (row ∷ rows) at w e =
      walk_later id at w (taken named n row) (all rows) (λ same. omega (arith, e, same)) ∙ reach rows (at + 1) w (omega (arith, e))

  -- a row that stands at the front of a walk
  front : (row : Row) (covers : List Cover) → List Cover
  front row covers = begun row id ∷ (row.later ++ covers)

  more_in_front : (row : Row) (covers : List Cover) → Begins covers → front row (more covers) ≡ more (front row covers)
  unfolding front
  more_in_front row covers begins =
      let name : ℕ = cohort_after row.entry row.later in
      let same : cohort_of (front row covers) ≡ cohort_of covers = cohort_append row.entry row.later covers ∙ begins name 0 in
      let longer : front row covers ++ begun new id ∷ [] ≡ front row (covers ++ begun new id ∷ []) =
      ap (λ (l : List Cover). begun row id ∷ l) (append_assoc row.later covers (begun new id ∷ [])) in
      by_test (is_in named covers)
      (λ e.
      ap (λ (b : Bool). front row (if b then covers ++ begun new id ∷ [] else covers)) e
      ∙ sym (ap (λ (b : Bool). if b then front row covers ++ begun new id ∷ [] else front row covers) (ap (has_name named) same ∙ e) ∙ longer))
      (λ e.
      ap (λ (b : Bool). front row (if b then covers ++ begun new id ∷ [] else covers)) e
      ∙ sym (ap (λ (b : Bool). if b then front row covers ++ begun new id ∷ [] else front row covers) (ap (has_name named) same ∙ e)))

  -- a live row
  live : (row : Row) → AllByRecursion (λ (c : Cover). c.begins ≡ false) row.later → cohort_of (front row []) ≡ row.entry
  unfolding front
  live row later = ap (cohort_after row.entry) (append-nil row.later) ∙ cohort_later row.entry row.later later

  Grown : ℕ → ℕ → List Row → Type 0
  Grown at w rows = walk id at (Some w) (all rows) ≡ more (walk id at (Some w) rows)

  mutual_here : (row : Row) (rows : List Row) (at : ℕ) (next : Option ℕ) → row.next ≡ next → n ≡ at + 1 + length rows → IsRow at n row
      → ((w : ℕ) → at + 1 ≤ w → w < n → Grown (at + 1) w rows)
      → front row (walk id (at + 1) (next_after named n row.entry next) (all rows)) ≡ more (front row (walk id (at + 1) next rows))
  unfolding front Grown
  mutual_here row rows at None is e good rest =
      let none = nothing id (at + 1) rows in
      let old : front row (walk id (at + 1) None rows) ≡ front row [] = ap (front row) none in
      let test : is_in named (front row []) ≡ has_name named row.entry = ap (has_name named) (live row good.later) in
      by_test (has_name named row.entry)
      (λ b.
      ap (λ (t : Bool). front row (walk id (at + 1) (if t then Some n else None) (all rows))) b
      ∙ ap (front row) (reach rows (at + 1) n (omega (arith, e)))
      ∙ ap (λ (l : List Cover). begun row id ∷ (l ++ begun new id ∷ [])) (sym (append-nil row.later))
      ∙ sym (ap more old ∙ ap (λ (t : Bool). if t then front row [] ++ begun new id ∷ [] else front row []) (test ∙ b)))
      (λ b.
      ap (λ (t : Bool). front row (walk id (at + 1) (if t then Some n else None) (all rows))) b
      ∙ ap (front row) (nothing id (at + 1) (all rows))
      ∙ sym (ap more old ∙ ap (λ (t : Bool). if t then front row [] ++ begun new id ∷ [] else front row []) (test ∙ b)))
  mutual_here row rows at (Some m) is e good rest =
      let goes : GoesOn at n (Some m) = subst (GoesOn at n) is good.goes_on in
      ap (front row) (rest m (omega (arith, goes.0)) goes.1)
      ∙ more_in_front row (walk id (at + 1) (Some m) rows) (walk_begins id (at + 1) m rows (omega (arith, goes.0)) (omega (arith, goes.1, e)))

  grown : (rows : List Row) (at : ℕ) → n ≡ at + length rows → AreRows at n rows → (w : ℕ) → at ≤ w → w < n → Grown at w rows
  unfolding front Grown
  grown [] at e good w low high = absurd (omega (arith, e, low, high))
  grown (row ∷ rows) at e good w low high =
      by_test (w == at)
      (λ t.
      let same = eqb-true w at t in
      walk_here id at w (taken named n row) (all rows) same
      ∙ mutual_here row rows at row.next refl (omega (arith, e)) good.0 (grown rows (at + 1) (omega (arith, e)) good.1)
      ∙ sym (ap more (walk_here id at w row rows same)))
      (λ t.
      let apart : w ≡ at → ⊥ = λ same. let f = sym (eq-eqb w at same) ∙ t in cc in
      walk_later id at w (taken named n row) (all rows) apart
      ∙ grown rows (at + 1) (omega (arith, e)) good.1 w (omega (arith, low, apart)) high
      ∙ sym (ap more (walk_later id at w row rows apart)))

-- ---- the places

place_behind : (before : List ℕ) (id : ℕ) (rest : List ℕ) → AllByRecursion (λ x. x < id) before → place_of (before ++ id ∷ rest) id ≡ length before
place_behind [] id rest below = ap (λ (b : Bool). if b then 0 else suc (place_of rest id)) (eq-eqb id id refl)
place_behind (x ∷ before) id rest below =
    ap (λ (b : Bool). if b then 0 else suc (place_of (before ++ id ∷ rest) id)) (ne_eqb x id (λ e. omega (arith, e, below.0)))
    ∙ ap suc (place_behind before id rest below.1)

below_next : (id : ℕ) (before : List ℕ) → AllByRecursion (λ x. x < id) before → AllByRecursion (λ x. x < id + 1) before
below_next id [] h = tt
below_next id (x ∷ before) h = (omega (arith, h.0), below_next id before h.1)

below_end : (id : ℕ) (before : List ℕ) → AllByRecursion (λ x. x < id) before → AllByRecursion (λ x. x < id + 1) (before ++ id ∷ [])
below_end id [] h = (omega arith, tt)
below_end id (x ∷ before) h = (omega (arith, h.0), below_end id before h.1)

module _ (rows : List Row) (named : List ℕ) (entry : ℕ) (alg : HashAlg) (token members : List ℕ) (most least : ℕ) (good : AreRows 0 (length rows) rows) where
  abbrev new : Row
  new = row_of entry alg token members most least

  abbrev cover : ℕ → Cover
  cover place = cover_at entry true alg token place

  each : (firsts : List ℕ) (id : ℕ) (before : List ℕ) → AllByRecursion (λ first. first < length rows) firsts → AllByRecursion (λ x. x < id) before
      → members ≡ before ++ ids_in named id (sealed_by rows id firsts)
      → sealed_by (with_row named rows new) id firsts ≡ renewed_from cover named (length before) (sealed_by rows id firsts)
  unfolding Grown
  each [] id before known below are = refl
  each (first ∷ firsts) id before known below are =
      let old : List Cover = walk id 0 (Some first) rows in
      let later : List (List Cover) = sealed_by rows (id + 1) firsts in
      let one : walk id 0 (Some first) (with_row named rows new) ≡ (if is_in named old then old ++ begun new id ∷ [] else old) =
      grown named (length rows) new id refl rows 0 (omega arith) good first (omega arith) known.0 in
      by_test (is_in named old)
      (λ e.
      let here : members ≡ before ++ id ∷ ids_in named (id + 1) later =
      are ∙ ap (λ (b : Bool). before ++ (if b then id ∷ ids_in named (id + 1) later else ids_in named (id + 1) later)) e in
      let place : place_of members id ≡ length before = ap (λ (l : List ℕ). place_of l id) here ∙ place_behind before id (ids_in named (id + 1) later) below in
      let rest = each firsts (id + 1) (before ++ id ∷ []) known.1 (below_end id before below) (here ∙ sym (append_assoc before (id ∷ []) (ids_in named (id + 1) later))) in
      let next_place : length (before ++ id ∷ []) ≡ length before + 1 = length-append before (id ∷ []) in
      let first_is : walk id 0 (Some first) (with_row named rows new) ≡ old ++ cover (length before) ∷ [] =
      one ∙ ap (λ (b : Bool). if b then old ++ begun new id ∷ [] else old) e ∙ ap (λ (p : ℕ). old ++ cover p ∷ []) place in
      ap (λ (l : List Cover). l ∷ sealed_by (with_row named rows new) (id + 1) firsts) first_is
      ∙ ap (λ (l : List (List Cover)). (old ++ cover (length before) ∷ []) ∷ l) (rest ∙ ap (λ (p : ℕ). renewed_from cover named p later) next_place)
      ∙ sym (ap (λ (b : Bool). if b then (old ++ cover (length before) ∷ []) ∷ renewed_from cover named (length before + 1) later else old ∷ renewed_from cover named (length before) later) e))
      (λ e.
      let here : members ≡ before ++ ids_in named (id + 1) later =
      are ∙ ap (λ (b : Bool). before ++ (if b then id ∷ ids_in named (id + 1) later else ids_in named (id + 1) later)) e in
      let rest = each firsts (id + 1) before known.1 (below_next id before below) here in
      let first_is : walk id 0 (Some first) (with_row named rows new) ≡ old = one ∙ ap (λ (b : Bool). if b then old ++ begun new id ∷ [] else old) e in
      ap (λ (l : List Cover). l ∷ sealed_by (with_row named rows new) (id + 1) firsts) first_is
      ∙ ap (λ (l : List (List Cover)). old ∷ l) rest
      ∙ sym (ap (λ (b : Bool). if b then (old ++ cover (length before) ∷ []) ∷ renewed_from cover named (length before + 1) later else old ∷ renewed_from cover named (length before) later) e))

pub renewing : (rows : List Row) (firsts named : List ℕ) (entry : ℕ) (alg : HashAlg) (token : List ℕ) (most least : ℕ) → AreRows 0 (length rows) rows → AllByRecursion (λ first. first < length rows) firsts
    → sealed_by (with_row named rows (row_of entry alg token (ids_in named 0 (sealed_by rows 0 firsts)) most least)) 0 firsts ≡ renewed_from (cover_at entry true alg token) named 0 (sealed_by rows 0 firsts)
renewing rows firsts named entry alg token most least good known =
    each rows named entry alg token (ids_in named 0 (sealed_by rows 0 firsts)) most least good firsts 0 [] known tt refl

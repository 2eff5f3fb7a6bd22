-- A walk goes on from each of its rows.
use Rattle.std.proofs.Common.{◌≡◌, ℕ, zero, suc, ◌+◌, ◌-◌, ◌<◌, ◌≤◌, List, [], ◌∷◌, ◌++◌, length, map, Option, Some, None, refl, sym, ap, subst, ◌∙◌, arith}
use Rattle.std.specs.Prelude.{⊤, slice_get, slice_index_or}
use Rattle.std.specs.List.{AllByRecursion}
use Rattle.archive_chain.specs.Kept.{Cover}
use Rattle.archive_chain.specs.InsideRows.{Row as Chain, begun, walk, sealed_by, GoesOn, IsRow, AreRows}
use Rattle.std.proofs.lemmas.List.{length-append, length-map}
use Rattle.std.proofs.lemmas.Option.{slice_get_read}
use Rattle.archive_chain.specs.declared.row.Row.{Row}
use Rattle.archive_chain.specs.InsideTable.{Stamps, later_seen, row_seen, rows_seen, sealed_in}
use Rattle.archive_chain.proofs.RowsRenewing.{walk_here, walk_later, nothing}

-- the next row, where there is one, is one of so many
abbrev pub Within : ℕ → Option ℕ → Type 0
Within n None = ⊤
Within n (Some w) = w < n

-- how many rows may still come
abbrev pub left : ℕ → Option ℕ → ℕ
left n None = 0
left n (Some w) = suc (n - w)

-- ---- the covers of a group

pub sealed_length : (rows : List Chain) (id : ℕ) (firsts : List ℕ) → length (sealed_by rows id firsts) ≡ length firsts
sealed_length rows id [] = refl
sealed_length rows id (first ∷ firsts) = ap suc (sealed_length rows (id + 1) firsts)

pub sealed_at : (rows : List Chain) (base i : ℕ) (firsts : List ℕ) (first : ℕ) → slice_get firsts i ≡ Some first
    → slice_index_or (sealed_by rows base firsts) i [] ≡ walk (base + i) 0 (Some first) rows
sealed_at rows base i [] first e = absurd (none first e) where
  none : (x : ℕ) → ◌≡◌ {A = Option ℕ} None (Some x) → ⊥
  none x e = cc
sealed_at rows base zero (f ∷ firsts) first e =
    let same : f ≡ first = cc in
    let none : base ≡ base + 0 = omega arith in
    (λ k. walk (none k) 0 (Some (same k)) rows)
sealed_at rows base (suc i) (f ∷ firsts) first e =
    let moved : (base + 1) + i ≡ base + suc i = omega arith in
    sealed_at rows (base + 1) i firsts first e ∙ ap (λ (x : ℕ). walk x 0 (Some first) rows) moved

pub sealed_past : (rows : List Chain) (base i : ℕ) (firsts : List ℕ) → slice_get firsts i ≡ None → slice_index_or (sealed_by rows base firsts) i [] ≡ []
sealed_past rows base i [] e = refl
sealed_past rows base zero (f ∷ firsts) e = absurd (none f e) where
  none : (x : ℕ) → ◌≡◌ {A = Option ℕ} (Some x) None → ⊥
  none x e = cc
sealed_past rows base (suc i) (f ∷ firsts) e = sealed_past rows (base + 1) i firsts e

-- ---- one row

skip : (id at : ℕ) (next : Option ℕ) (row : Chain) (rows : List Chain) (end : ℕ) → GoesOn at end next → walk id (at + 1) next rows ≡ walk id at next (row ∷ rows)
skip id at None row rows end on = nothing id (at + 1) rows ∙ sym (nothing id at (row ∷ rows))
skip id at (Some w) row rows end on = sym (walk_later id at w row rows (λ same. omega (arith, same, on.0)))

skip_all : (id at : ℕ) (next : Option ℕ) (w end : ℕ) (row : Chain) (rows : List Chain) → at < w → GoesOn w end next → walk id (at + 1) next rows ≡ walk id at next (row ∷ rows)
skip_all id at None w end row rows less on = nothing id (at + 1) rows ∙ sym (nothing id at (row ∷ rows))
skip_all id at (Some v) w end row rows less on = sym (walk_later id at v row rows (λ same. omega (arith, same, on.0, less)))

-- the row at a place, with what it owes
record Found (id at w end : ℕ) (rows : List Chain) (row : Chain) : Type 0 where
  is_row : IsRow w end row
  goes_on : walk id at (Some w) rows ≡ begun row id ∷ (row.later ++ walk id at row.next rows)

found : (id at i w end : ℕ) (rows : List Chain) (row : Chain) → AreRows at end rows → w ≡ at + i → slice_get rows i ≡ Some row → Found id at w end rows row
found id at i w end [] row good e h = absurd (none row h) where
  none : (x : Chain) → ◌≡◌ {A = Option Chain} None (Some x) → ⊥
  none x e = cc
found id at zero w end (r ∷ rows) row good e h =
    let same : r ≡ row = cc in
    let here : w ≡ at = omega (arith, e) in
    let is : IsRow at end r = good.0 in record {
      is_row = subst (λ (x : ℕ). IsRow x end row) (sym here) (subst (IsRow at end) same is);
      goes_on = walk_here id at w r rows here ∙ ap (λ (l : List Cover). begun r id ∷ (r.later ++ l)) (skip id at r.next r rows end is.goes_on)
          ∙ ap (λ (x : Chain). begun x id ∷ (x.later ++ walk id at x.next (r ∷ rows))) same;
    }
found id at (suc i) w end (r ∷ rows) row good e h =
    let rest = found id (at + 1) i w end rows row good.1 (omega (arith, e)) h in
    let less : at < w = omega (arith, e) in record {
      is_row = rest.is_row;
      goes_on = walk_later id at w r rows (λ same. omega (arith, same, less)) ∙ rest.goes_on
          ∙ ap (λ (l : List Cover). begun row id ∷ (row.later ++ l)) (skip_all id at row.next w end r rows less rest.is_row.goes_on);
    }

-- ---- from the front

pub goes_on : (id w : ℕ) (rows : List Chain) (row : Chain) → AreRows 0 (length rows) rows → slice_get rows w ≡ Some row
    → walk id 0 (Some w) rows ≡ begun row id ∷ (row.later ++ walk id 0 row.next rows)
goes_on id w rows row good h = (found id 0 w w (length rows) rows row good (omega arith) h).goes_on

pub next_within : (w : ℕ) (rows : List Chain) (row : Chain) → AreRows 0 (length rows) rows → slice_get rows w ≡ Some row → GoesOn w (length rows) row.next
next_within w rows row good h = (found 0 0 w w (length rows) rows row good (omega arith) h).is_row.goes_on

-- ---- in the table

pub get_map : {A B : Type 0} (f : A → B) (xs : List A) (i : ℕ) (x : A) → slice_get xs i ≡ Some x → slice_get (map f xs) i ≡ Some (f x)
get_map {A} {B} f [] i x e = absurd (none x e) where
  none : (x : A) → ◌≡◌ {A = Option A} None (Some x) → ⊥
  none x e = cc
get_map {A} {B} f (y ∷ xs) zero x e = let same : y ≡ x = some y x e in ap (λ (z : A). Some (f z)) same where
  some : (y x : A) → ◌≡◌ {A = Option A} (Some y) (Some x) → y ≡ x
  some y x e = cc
get_map f (y ∷ xs) (suc i) x e = get_map f xs i x e

pub length_seen : (stamps : Stamps) (rows : List Row) → length (rows_seen stamps rows) ≡ length rows
length_seen stamps rows = length-map rows (row_seen stamps)

pub short_at : (xs : List (List Cover)) (i : ℕ) → AllByRecursion (λ (covers : List Cover). length covers ≤ 200) xs → length (slice_index_or xs i []) ≤ 200
short_at [] i short = omega arith
short_at (x ∷ xs) zero short = short.0
short_at (x ∷ xs) (suc i) short = short_at xs i short.1

-- what is met at a row
pub record Visit (stamps : Stamps) (rows : List Row) (id w : ℕ) (row : Row) : Type 0 where
  pub walk_is : walk id 0 (Some w) (rows_seen stamps rows) ≡ begun (row_seen stamps row) id ∷ (map (later_seen stamps) row.later.items ++ walk id 0 row.next (rows_seen stamps rows))
  pub within : Within (length rows) row.next
  pub smaller : left (length rows) row.next < left (length rows) (Some w)
  pub counted : length (walk id 0 (Some w) (rows_seen stamps rows)) ≡ length row.later.items + 1 + length (walk id 0 row.next (rows_seen stamps rows))

on_within : (w n : ℕ) (next : Option ℕ) → GoesOn w n next → Within n next
on_within w n None on = tt
on_within w n (Some v) on = on.1

on_smaller : (w n : ℕ) (next : Option ℕ) → w < n → GoesOn w n next → left n next < left n (Some w)
on_smaller w n None less on = omega arith
on_smaller w n (Some v) less on = omega (arith, less, on.0, on.1)

pub visit : (stamps : Stamps) (rows : List Row) (id w : ℕ) (row : Row) → AreRows 0 (length rows) (rows_seen stamps rows) → w < length rows → row ≡ slice_index_or rows w row
    → Visit stamps rows id w row
visit stamps rows id w row good less at =
    let seen : List Chain = rows_seen stamps rows in
    let there : slice_get seen w ≡ Some (row_seen stamps row) = get_map (row_seen stamps) rows w row (slice_get_read rows (length rows) w row refl less at) in
    let many : length rows ≡ length seen = sym (length_seen stamps rows) in
    let good_seen : AreRows 0 (length seen) seen = subst (λ (n : ℕ). AreRows 0 n seen) many good in
    let is : walk id 0 (Some w) seen ≡ begun (row_seen stamps row) id ∷ (map (later_seen stamps) row.later.items ++ walk id 0 row.next seen) =
    goes_on id w seen (row_seen stamps row) good_seen there in
    let on : GoesOn w (length rows) row.next = subst (λ (n : ℕ). GoesOn w n row.next) (sym many) (next_within w seen (row_seen stamps row) good_seen there) in
    let tail : length (map (later_seen stamps) row.later.items ++ walk id 0 row.next seen) ≡ length row.later.items + length (walk id 0 row.next seen) =
    length-append (map (later_seen stamps) row.later.items) (walk id 0 row.next seen) ∙ ap (λ (n : ℕ). n + length (walk id 0 row.next seen)) (length-map row.later.items (later_seen stamps)) in
    let all : length (walk id 0 (Some w) seen) ≡ suc (length (map (later_seen stamps) row.later.items ++ walk id 0 row.next seen)) = ap length is in record {
      walk_is = is;
      within = on_within w (length rows) row.next on;
      smaller = on_smaller w (length rows) row.next less on;
      counted = omega (arith, all, tail);
    }

-- from the row of its seal
pub started : (stamps : Stamps) (rows : List Row) (firsts : List ℕ) (id : ℕ) (first : Option ℕ) → AllByRecursion (λ f. f < length rows) firsts → first ≡ slice_get firsts id
    → (walk id 0 first (rows_seen stamps rows) ≡ slice_index_or (sealed_in stamps rows firsts) id []) × Within (length rows) first
started stamps rows firsts id None starts e =
    (nothing id 0 (rows_seen stamps rows) ∙ sym (sealed_past (rows_seen stamps rows) 0 id firsts (sym e)), tt)
started stamps rows firsts id (Some w) starts e =
    let same : 0 + id ≡ id = omega arith in
    (ap (λ (x : ℕ). walk x 0 (Some w) (rows_seen stamps rows)) (sym same) ∙ sym (sealed_at (rows_seen stamps rows) 0 id firsts w (sym e)), each firsts id starts (sym e)) where
      each : (xs : List ℕ) (i : ℕ) → AllByRecursion (λ f. f < length rows) xs → slice_get xs i ≡ Some w → w < length rows
      each [] i all h = absurd (none w h) where
        none : (x : ℕ) → ◌≡◌ {A = Option ℕ} None (Some x) → ⊥
        none x e = cc
      each (x ∷ xs) zero all h = let same : x ≡ w = cc in subst (λ (y : ℕ). y < length rows) same all.0
      each (x ∷ xs) (suc i) all h = each xs i all.1 h

-- a loop over the rows of a group: what is left at one row, and at the next
pub counts : (stamps : Stamps) (rows : List Row) (id w : ℕ) (row : Row) (at : Option ℕ) (count n total : ℕ) → AreRows 0 (length rows) (rows_seen stamps rows)
    → row ≡ slice_index_or rows w row → at ≡ Some w → Within (length rows) at
    → count + length (walk id 0 at (rows_seen stamps rows)) ≡ total → n ≡ length row.later.items
    → Visit stamps rows id w row × (count + (n + 1 + length (walk id 0 row.next (rows_seen stamps rows))) ≡ total)
counts stamps rows id w row at count n total good is e within before long =
    let v : Visit stamps rows id w row = visit stamps rows id w row good (subst (Within (length rows)) e within) is in
    let there = ap (λ (o : Option ℕ). length (walk id 0 o (rows_seen stamps rows))) e in
    let counted = v.counted in
    (v, omega (arith, there, counted, before, long))

-- Changes of single rows, and what they come to over all rows.
use Rattle.std.proofs.Common.{◌≡◌, ℕ, zero, suc, ◌<◌, List, [], ◌∷◌, ◌++◌, length, refl, sym, ap, subst, ◌∙◌, arith}
use Rattle.std.specs.Prelude.{slice_index_or, slice_set}
use Rattle.std.specs.List.{AllByRecursion}
use Rattle.archive_chain.specs.declared.row.Row.{Row}
use Rattle.archive_chain.specs.declared.row.Longer.{Longer}
use Rattle.archive_chain.specs.InsideTable.{change, leads_to, led, with_later, lengthened}

pub set_is_change : {A : Type 0} (f : A → A) (xs : List A) (i : ℕ) (x : A) → x ≡ slice_index_or xs i x → i < length xs → slice_set xs i (f x) ≡ change f i xs
set_is_change f [] i x e less = absurd (omega (arith, less))
set_is_change f (y ∷ xs) zero x e less = ap (λ z. f z ∷ xs) e
set_is_change f (y ∷ xs) (suc i) x e less = ap (λ zs. y ∷ zs) (set_is_change f xs i x e (omega (arith, less)))

pub length_change : {A : Type 0} (f : A → A) (p : ℕ) (xs : List A) → length (change f p xs) ≡ length xs
length_change f p [] = refl
length_change f zero (x ∷ xs) = refl
length_change f (suc p) (x ∷ xs) = ap suc (length_change f p xs)

led_more : (n : ℕ) (places : List ℕ) (p : ℕ) (rows : List Row) → led n (places ++ p ∷ []) rows ≡ led n places (change (leads_to n) p rows)
led_more n [] p rows = refl
led_more n (q ∷ places) p rows = ap (change (leads_to n) q) (led_more n places p rows)

lengthened_more : (longer : List Longer) (l : Longer) (rows : List Row) → lengthened (longer ++ l ∷ []) rows ≡ lengthened longer (change (with_later l) l.row rows)
lengthened_more [] l rows = refl
lengthened_more (m ∷ longer) l rows = ap (change (with_later m) m.row) (lengthened_more longer l rows)

all_front : {A : Type 0} (P : A → Type 0) (xs : List A) (x : A) → AllByRecursion P (xs ++ x ∷ []) → AllByRecursion P xs × P x
all_front P [] x h = (tt, h.0)
all_front P (y ∷ xs) x h = let rest = all_front P xs x h.1 in ((h.0, rest.0), rest.1)

-- one more of the rows that lead on, from the back
pub led_one : (n p : ℕ) (before after : List ℕ) (rows all : List Row) (row : Row) → before ≡ after ++ p ∷ [] → led n before rows ≡ all
    → AllByRecursion (λ q. q < length rows) before → row ≡ slice_index_or rows p row
    → (led n after (slice_set rows p (leads_to n row)) ≡ all) × AllByRecursion (λ q. q < length (slice_set rows p (leads_to n row))) after
led_one n p before after rows all row split so_far within is =
    let each = all_front (λ q. q < length rows) after p (subst (AllByRecursion (λ q. q < length rows)) split within) in
    let set : slice_set rows p (leads_to n row) ≡ change (leads_to n) p rows = set_is_change (leads_to n) rows p row is each.1 in
    let same : length rows ≡ length (slice_set rows p (leads_to n row)) = sym (ap (λ (l : List Row). length l) set ∙ length_change (leads_to n) p rows) in (
      ap (led n after) set ∙ sym (led_more n after p rows) ∙ sym (ap (λ (ps : List ℕ). led n ps rows) split) ∙ so_far,
      subst (λ (m : ℕ). AllByRecursion (λ q. q < m) after) same each.0,
    )

pub lengthened_one : (l : Longer) (before after : List Longer) (rows all : List Row) (row : Row) → before ≡ after ++ l ∷ [] → lengthened before rows ≡ all
    → AllByRecursion (λ (x : Longer). x.row < length rows) before → row ≡ slice_index_or rows l.row row
    → (lengthened after (slice_set rows l.row (with_later l row)) ≡ all) × AllByRecursion (λ (x : Longer). x.row < length (slice_set rows l.row (with_later l row))) after
lengthened_one l before after rows all row split so_far within is =
    let each = all_front (λ (x : Longer). x.row < length rows) after l (subst (AllByRecursion (λ (x : Longer). x.row < length rows)) split within) in
    let set : slice_set rows l.row (with_later l row) ≡ change (with_later l) l.row rows = set_is_change (with_later l) rows l.row row is each.1 in
    let same : length rows ≡ length (slice_set rows l.row (with_later l row)) = sym (ap (λ (xs : List Row). length xs) set ∙ length_change (with_later l) l.row rows) in (
      ap (lengthened after) set ∙ sym (lengthened_more after l rows) ∙ sym (ap (λ (ls : List Longer). lengthened ls rows) split) ∙ so_far,
      subst (λ (m : ℕ). AllByRecursion (λ (x : Longer). x.row < m) after) same each.0,
    )

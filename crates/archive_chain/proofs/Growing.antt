-- A further time-stamp, and a further row, change nothing before them.
use Rattle.std.proofs.Common.{◌≡◌, ℕ, zero, suc, ◌+◌, ◌<◌, ◌≤◌, false, List, [], ◌∷◌, ◌++◌, length, map, Option, Some, None, refl, sym, ap, subst, arith}
use Rattle.std.specs.Prelude.{replicate}
use Rattle.std.specs.List.{AllByRecursion}
use Rattle.archive_chain.specs.Kept.{Cover}
use Rattle.archive_chain.specs.InsideRows.{Row as Chain, GoesOn, AreRows}
use Rattle.archive_chain.specs.declared.time_stamp.TimeStamp.{TimeStamp}
use Rattle.archive_chain.specs.declared.row.Row.{Row}
use Rattle.archive_chain.specs.declared.row.Later.{Later}
use Rattle.archive_chain.specs.InsideTable.{Stamps, stamp_at, alg_in, token_in, later_seen, row_seen, rows_seen, ids_seen, RowsAscend, IsKnown}

-- ---- of all items

pub all_append : {A : Type 0} (P : A → Type 0) (xs ys : List A) → AllByRecursion P xs → AllByRecursion P ys → AllByRecursion P (xs ++ ys)
all_append P [] ys h k = k
all_append P (x ∷ xs) ys h k = (h.0, all_append P xs ys h.1 k)

pub all_weaker : {A : Type 0} (P Q : A → Type 0) (xs : List A) → ((x : A) → P x → Q x) → AllByRecursion P xs → AllByRecursion Q xs
all_weaker P Q [] f h = tt
all_weaker P Q (x ∷ xs) f h = (f x h.0, all_weaker P Q xs f h.1)

pub all_copies : {A : Type 0} (P : A → Type 0) (n : ℕ) (x : A) → P x → AllByRecursion P (replicate n x)
all_copies P zero x h = tt
all_copies P (suc n) x h = (h, all_copies P n x h)

-- ---- one time-stamp more

pub stamp_stays : (stamps : Stamps) (t : Option TimeStamp) (i : ℕ) → i < length stamps → stamp_at (stamps ++ t ∷ []) i ≡ stamp_at stamps i
stamp_stays [] t i less = absurd (omega (arith, less))
stamp_stays (s ∷ stamps) t zero less = refl
stamp_stays (s ∷ stamps) t (suc i) less = stamp_stays stamps t i (omega (arith, less))

pub stamp_comes : (stamps : Stamps) (t : Option TimeStamp) → stamp_at (stamps ++ t ∷ []) (length stamps) ≡ t
stamp_comes [] t = refl
stamp_comes (s ∷ stamps) t = stamp_comes stamps t

later_stays : (stamps : Stamps) (t : Option TimeStamp) (later : List Later) → AllByRecursion (λ (l : Later). l.stamp < length stamps) later
    → map (later_seen (stamps ++ t ∷ [])) later ≡ map (later_seen stamps) later
later_stays stamps t [] known = refl
later_stays stamps t (l ∷ later) known =
    let one : later_seen (stamps ++ t ∷ []) l ≡ later_seen stamps l = ap (λ (s : Option TimeStamp). record { entry = l.stamp; begins = false; alg = alg_in s; token = token_in s; place = l.place }) (stamp_stays stamps t l.stamp known.0) in
    (λ i. one i ∷ later_stays stamps t later known.1 i)

row_stays : (stamps : Stamps) (t : Option TimeStamp) (row : Row) → IsKnown (length stamps) row → row_seen (stamps ++ t ∷ []) row ≡ row_seen stamps row
row_stays stamps t row known =
    let at = stamp_stays stamps t row.stamp known.stamp in
    let later = later_stays stamps t row.later.items known.later in
    (λ i. record { entry = row.stamp; alg = alg_in (at i); token = token_in (at i); members = ids_seen row.members; later = later i; next = row.next; most = row.most; least = row.least })

pub rows_stay : (stamps : Stamps) (t : Option TimeStamp) (rows : List Row) → AllByRecursion (IsKnown (length stamps)) rows → rows_seen (stamps ++ t ∷ []) rows ≡ rows_seen stamps rows
rows_stay stamps t [] known = refl
rows_stay stamps t (row ∷ rows) known = (λ i. row_stays stamps t row known.0 i ∷ rows_stay stamps t rows known.1 i)

pub known_more : (n m : ℕ) (row : Row) → n ≤ m → IsKnown n row → IsKnown m row
known_more n m row le k = record {
  stamp = omega (arith, le, k.stamp);
  later = all_weaker (λ (l : Later). l.stamp < n) (λ (l : Later). l.stamp < m) row.later.items (λ l h. omega (arith, le, h)) k.later;
}

-- ---- one row more

goes_further : (at n m : ℕ) (next : Option ℕ) → n ≤ m → GoesOn at n next → GoesOn at m next
goes_further at n m None le on = tt
goes_further at n m (Some w) le on = (on.0, omega (arith, le, on.1))

pub one_row : (rows : List Chain) (new : Chain) (at n : ℕ) → new.next ≡ None → new.later ≡ [] → AreRows at n rows → AreRows at (n + 1) (rows ++ new ∷ [])
one_row [] new at n end alone good = (
  record {
    goes_on = subst (λ (o : Option ℕ). GoesOn at (n + 1) o) (sym end) tt;
    later = subst (λ (l : List Cover). AllByRecursion (λ (c : Cover). c.begins ≡ false) l) (sym alone) tt;
  },
  tt,
)
one_row (row ∷ rows) new at n end alone good =
    (record { goes_on = goes_further at n (n + 1) row.next (omega arith) good.0.goes_on; later = good.0.later }, one_row rows new (at + 1) n end alone good.1)

pub end_row : (rows : List Chain) (new : Chain) (at n : ℕ) → new.next ≡ None → new.later ≡ [] → AreRows at n rows → AreRows at n (rows ++ new ∷ [])
end_row [] new at n end alone good = (
  record {
    goes_on = subst (λ (o : Option ℕ). GoesOn at n o) (sym end) tt;
    later = subst (λ (l : List Cover). AllByRecursion (λ (c : Cover). c.begins ≡ false) l) (sym alone) tt;
  },
  tt,
)
end_row (row ∷ rows) new at n end alone good = (good.0, end_row rows new (at + 1) n end alone good.1)

pub ascend_end : (rows : List Chain) (new : Chain) → RowsAscend rows → AllByRecursion (λ (r : Chain). r.entry < new.entry) rows → RowsAscend (rows ++ new ∷ [])
ascend_end [] new up below = (tt, tt)
ascend_end (r ∷ rows) new up below = (all_append (λ (s : Chain). r.entry < s.entry) rows (new ∷ []) up.0 (below.0, tt), ascend_end rows new up.1 below.1)

map_above : (f : Chain → Chain) (low : ℕ) (rows : List Chain) → ((r : Chain) → (f r).entry ≡ r.entry) → AllByRecursion (λ (s : Chain). low < s.entry) rows → AllByRecursion (λ (s : Chain). low < s.entry) (map f rows)
map_above f low [] same h = tt
map_above f low (r ∷ rows) same h = (let e = same r in let k = h.0 in omega (arith, e, k), map_above f low rows same h.1)

pub ascend_map : (f : Chain → Chain) (rows : List Chain) → ((r : Chain) → (f r).entry ≡ r.entry) → RowsAscend rows → RowsAscend (map f rows)
ascend_map f [] same up = tt
ascend_map f (r ∷ rows) same up =
    (subst (λ (n : ℕ). AllByRecursion (λ (s : Chain). n < s.entry) (map f rows)) (sym (same r)) (map_above f r.entry rows same up.0), ascend_map f rows same up.1)

pub entries_below : (stamps : Stamps) (m : ℕ) (rows : List Row) → AllByRecursion (IsKnown m) rows → AllByRecursion (λ (r : Chain). r.entry < m) (rows_seen stamps rows)
entries_below stamps m [] known = tt
entries_below stamps m (r ∷ rows) known = (known.0.stamp, entries_below stamps m rows known.1)

pub map_above_below : (f : Chain → Chain) (m : ℕ) (rows : List Chain) → ((r : Chain) → (f r).entry ≡ r.entry) → AllByRecursion (λ (s : Chain). s.entry < m) rows → AllByRecursion (λ (s : Chain). s.entry < m) (map f rows)
map_above_below f m [] same h = tt
map_above_below f m (r ∷ rows) same h = (let e = same r in let k = h.0 in omega (arith, e, k), map_above_below f m rows same h.1)

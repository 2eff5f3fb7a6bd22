-- The tree of each time-stamp has a leaf for each group of its row.
use Rattle.std.proofs.Common.{◌≡◌, ℕ, zero, suc, ◌+◌, ◌<◌, ◌≤◌, Bool, List, [], ◌∷◌, ◌++◌, length, map, Option, Some, sym, ap, subst, ◌∙◌, arith}
use Rattle.std.specs.Prelude.{slice_get, if◌then◌else◌}
use Rattle.std.specs.List.{AllByRecursion, range_with_len}
use Rattle.std.proofs.lemmas.List.{length-append}
use Rattle.archive_chain.specs.Kept.{Cover, is_in, ids_in}
use Rattle.archive_chain.proofs.RowsRenewing.{by_test}
use Rattle.archive_chain.specs.declared.time_stamp.TimeStamp.{TimeStamp}
use Rattle.archive_chain.specs.declared.row.Row.{Row}
use Rattle.archive_chain.specs.declared.row.Later.{Later}
use Rattle.archive_chain.specs.declared.row.Longer.{Longer}
use Rattle.archive_chain.specs.Held.{Plain}
use Rattle.archive_chain.specs.InsideTable.{Stamps, stamp_at, ids_seen, plain_of, change, leads_to, led, with_later, lengthened, Rises, IsShort, IsTreed, IsTreedLater}
use Rattle.archive_chain.specs.InsidePieces.{IsAdded, AreAdded}
use Rattle.archive_chain.proofs.Growing.{all_append, all_weaker, stamp_stays, stamp_comes}
use Rattle.archive_chain.proofs.Indexing.{none_some, some_is}

later_more : (stamps : Stamps) (t : Option TimeStamp) (l : Later) → IsTreedLater stamps l → IsTreedLater (stamps ++ t ∷ []) l
later_more stamps t l h = record {
  stamp = h.stamp;
  within = let w = h.within in let e = length-append stamps (t ∷ []) in omega (arith, w, e);
  there = stamp_stays stamps t l.stamp h.within ∙ h.there;
  alg = h.alg;
  place = h.place;
  short = h.short;
}

row_more : (stamps : Stamps) (t : Option TimeStamp) (r : Row) → IsTreed stamps r → IsTreed (stamps ++ t ∷ []) r
row_more stamps t r h = record {
  stamp = h.stamp;
  within = let w = h.within in let e = length-append stamps (t ∷ []) in omega (arith, w, e);
  there = stamp_stays stamps t r.stamp h.within ∙ h.there;
  alg = h.alg;
  short = h.short;
  leaves = h.leaves;
  few = h.few;
  rises = h.rises;
  later = all_weaker (IsTreedLater stamps) (IsTreedLater (stamps ++ t ∷ [])) r.later.items (later_more stamps t) h.later;
}

pub treed_more : (stamps : Stamps) (t : Option TimeStamp) (rows : List Row) → AllByRecursion (IsTreed stamps) rows → AllByRecursion (IsTreed (stamps ++ t ∷ [])) rows
treed_more stamps t rows h = all_weaker (IsTreed stamps) (IsTreed (stamps ++ t ∷ [])) rows (row_more stamps t) h

pub treed_new : (stamps : Stamps) (t : TimeStamp) (r : Row) (ids : List ℕ) → IsShort t → r.stamp ≡ length stamps → r.later.items ≡ [] → ids_seen r.members ≡ ids → t.tree.alg ≡ t.alg → length t.tree.leaves ≡ length ids → length ids ≤ 65536 → Rises ids
    → IsTreed (stamps ++ Some t ∷ []) r
treed_new stamps t r ids short entry alone members alg leaves few rises = record {
  stamp = t;
  within = let e = length-append stamps (Some t ∷ []) in omega (arith, entry, e);
  there = ap (stamp_at (stamps ++ Some t ∷ [])) entry ∙ stamp_comes stamps (Some t);
  alg = alg;
  short = short;
  leaves = leaves ∙ ap (λ (l : List ℕ). length l) (sym members);
  few = subst (λ (l : List ℕ). length l ≤ 65536) (sym members) few;
  rises = subst Rises (sym members) rises;
  later = subst (AllByRecursion (IsTreedLater (stamps ++ Some t ∷ []))) (sym alone) tt;
}

run_above : (low first count : ℕ) → low < first → AllByRecursion (λ y. low < y) (range_with_len first count)
run_above low first zero h = tt
run_above low first (suc count) h = (h, run_above low (first + 1) count (omega (arith, h)))

pub run_rises : (first count : ℕ) → Rises (range_with_len first count)
run_rises first zero = tt
run_rises first (suc count) = (run_above first (first + 1) count (omega arith), run_rises (first + 1) count)

ids_above : (names : List ℕ) (low id : ℕ) (groups : List (List Cover)) → low < id → AllByRecursion (λ y. low < y) (ids_in names id groups)
ids_above names low id [] h = tt
ids_above names low id (g ∷ groups) h =
    let rest = ids_above names low (id + 1) groups (omega (arith, h)) in
    by_test (is_in names g)
    (λ e. subst (λ (b : Bool). AllByRecursion (λ y. low < y) (if b then id ∷ ids_in names (id + 1) groups else ids_in names (id + 1) groups)) (sym e) (h, rest))
    (λ e. subst (λ (b : Bool). AllByRecursion (λ y. low < y) (if b then id ∷ ids_in names (id + 1) groups else ids_in names (id + 1) groups)) (sym e) rest)

pub ids_rise : (names : List ℕ) (id : ℕ) (groups : List (List Cover)) → Rises (ids_in names id groups)
ids_rise names id [] = tt
ids_rise names id (g ∷ groups) =
    let rest = ids_rise names (id + 1) groups in
    by_test (is_in names g)
    (λ e. subst (λ (b : Bool). Rises (if b then id ∷ ids_in names (id + 1) groups else ids_in names (id + 1) groups)) (sym e) (ids_above names id (id + 1) groups (omega arith), rest))
    (λ e. subst (λ (b : Bool). Rises (if b then id ∷ ids_in names (id + 1) groups else ids_in names (id + 1) groups)) (sym e) rest)

pub ids_few : (names : List ℕ) (id : ℕ) (groups : List (List Cover)) → length (ids_in names id groups) ≤ length groups
ids_few names id [] = omega arith
ids_few names id (g ∷ groups) =
    let rest = ids_few names (id + 1) groups in
    by_test (is_in names g)
    (λ e. subst (λ (b : Bool). length (if b then id ∷ ids_in names (id + 1) groups else ids_in names (id + 1) groups) ≤ suc (length groups)) (sym e) (omega (arith, rest)))
    (λ e. subst (λ (b : Bool). length (if b then id ∷ ids_in names (id + 1) groups else ids_in names (id + 1) groups) ≤ suc (length groups)) (sym e) (omega (arith, rest)))

change_all : {A : Type 0} (P : A → Type 0) (f : A → A) (p : ℕ) (xs : List A) → ((x : A) → P x → P (f x)) → AllByRecursion P xs → AllByRecursion P (change f p xs)
change_all P f p [] keeps h = tt
change_all P f zero (x ∷ xs) keeps h = (keeps x h.0, h.1)
change_all P f (suc p) (x ∷ xs) keeps h = (h.0, change_all P f p xs keeps h.1)

pub treed_led : (stamps : Stamps) (n : ℕ) (places : List ℕ) (rows : List Row) → AllByRecursion (IsTreed stamps) rows → AllByRecursion (IsTreed stamps) (led n places rows)
treed_led stamps n [] rows h = h
treed_led stamps n (p ∷ places) rows h =
    change_all (IsTreed stamps) (leads_to n) p (led n places rows)
    (λ r k. record { stamp = k.stamp; within = k.within; there = k.there; alg = k.alg; short = k.short; leaves = k.leaves; few = k.few; rises = k.rises; later = k.later }) (treed_led stamps n places rows h)

treed_later : (stamps : Stamps) (l : Longer) (r : Row) → AllByRecursion (IsTreedLater stamps) l.later.items → IsTreed stamps r → IsTreed stamps (with_later l r)
treed_later stamps l r all k = record { stamp = k.stamp; within = k.within; there = k.there; alg = k.alg; short = k.short; leaves = k.leaves; few = k.few; rises = k.rises; later = all }

pub treed_lengthened : (stamps : Stamps) (longer : List Longer) (rows : List Row) → AllByRecursion (λ (l : Longer). AllByRecursion (IsTreedLater stamps) l.later.items) longer → AllByRecursion (IsTreed stamps) rows
    → AllByRecursion (IsTreed stamps) (lengthened longer rows)
treed_lengthened stamps [] rows all h = h
treed_lengthened stamps (l ∷ longer) rows all h = change_all (IsTreed stamps) (with_later l) l.row (lengthened longer rows) (λ r k. treed_later stamps l r all.0 k) (treed_lengthened stamps longer rows all.1 h)

treed_at_row : (stamps : Stamps) (place : ℕ) (rows : List Row) (r : Plain) → slice_get (map plain_of rows) place ≡ Some r → AllByRecursion (IsTreed stamps) rows → AllByRecursion (IsTreedLater stamps) r.later
treed_at_row stamps place [] r e h = absurd (none_some r e)
treed_at_row stamps zero (row ∷ rows) r e h = subst (λ (x : Plain). AllByRecursion (IsTreedLater stamps) x.later) (some_is (plain_of row) r e) h.0.later
treed_at_row stamps (suc place) (row ∷ rows) r e h = treed_at_row stamps place rows r e h.1

-- the new time-stamp, for the leaf of each cohort
pub treed_added : (stamps : Stamps) (t : TimeStamp) (place : ℕ) (rows : List Row) (longer : List Longer) (names : List ℕ) → AllByRecursion (IsTreed (stamps ++ Some t ∷ [])) rows → IsShort t → t.tree.alg ≡ t.alg
    → place + length names ≤ length t.tree.leaves → AreAdded (map plain_of rows) (length stamps) place longer names
    → AllByRecursion (λ (l : Longer). AllByRecursion (IsTreedLater (stamps ++ Some t ∷ [])) l.later.items) longer
treed_added stamps t place rows [] names h short alg room added = tt
treed_added stamps t place rows (l ∷ longer) [] h short alg room added = absurd added
treed_added stamps t place rows (l ∷ longer) (n ∷ names) h short alg room added =
    let one : IsAdded (map plain_of rows) (length stamps) place l n = added.0 in
    let new : IsTreedLater (stamps ++ Some t ∷ []) (record { stamp = length stamps; place = place }) = record {
      stamp = t;
      within = let e = length-append stamps (Some t ∷ []) in omega (arith, e);
      there = stamp_comes stamps (Some t);
      alg = alg;
      place = omega (arith, room);
      short = short;
    } in
    let all = all_append (IsTreedLater (stamps ++ Some t ∷ [])) one.at.row.later (record { stamp = length stamps; place = place } ∷ []) (treed_at_row (stamps ++ Some t ∷ []) l.row rows one.at.row one.at.there h) (new, tt) in
    (subst (AllByRecursion (IsTreedLater (stamps ++ Some t ∷ []))) (sym one.later) all, treed_added stamps t (place + 1) rows longer names h short alg (omega (arith, room)) added.1)

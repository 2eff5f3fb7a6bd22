-- Told lists: what is found in one with an item more, and in that of a store's rows.
use Rattle.std.proofs.Common.{◌≡◌, ℕ, zero, suc, ◌+◌, Bool, true, false, IsTrue, List, [], ◌∷◌, ◌++◌, length, drop, replicate, Option, Some, None, is_some, refl, sym, ap, ◌∙◌, arith, append_assoc, append-nil}
use Rattle.std.proofs.lemmas.List.Sums.{sum_by-cons}
use Rattle.entry_codec.specs.declared.entry.Entry.{Entry}
use Rattle.archive_store.specs.declared.item.Item.{Item}
use Rattle.archive_store.specs.declared.item.Item.TheVariants as item
use Rattle.archive_store.specs.declared.row.Row.{Row}
use Rattle.archive_store.specs.declared.row.Stored.{Stored}
use Rattle.archive_store.specs.declared.row.Stored.TheVariants.{OnDisk, Whole}
use Rattle.archive_store.specs.Told.{entries_of, marks_of, is_closed, blank, entry_told}
use Rattle.archive_store.specs.Rows.{entry_at, first_payload, told_rows, told_failed, told_of}
use Rattle.archive_store.specs.InsideRows.{entries_at, row_marks}
use Rattle.archive_store.specs.InsideStore.{count_failed}

pub entries_of-append : (a b : List Item) → entries_of (a ++ b) ≡ entries_of a ++ entries_of b
entries_of-append [] b = refl
entries_of-append (item.Entry e ∷ a) b = ap (λ l. e ∷ l) (entries_of-append a b)
entries_of-append (item.ReadFault ∷ a) b = entries_of-append a b
entries_of-append (item.StepFault ∷ a) b = entries_of-append a b

pub marks_of-append : (a b : List Item) → marks_of (a ++ b) ≡ marks_of a + marks_of b
marks_of-append [] b = omega arith
marks_of-append (item.Entry e ∷ a) b = marks_of-append a b
marks_of-append (item.ReadFault ∷ a) b = omega (arith, marks_of-append a b)
marks_of-append (item.StepFault ∷ a) b = omega (arith, marks_of-append a b)

-- behind a list without a step that failed
pub closed_after : (a b : List Item) → is_closed a ≡ false → is_closed (a ++ b) ≡ is_closed b
closed_after [] b unclosed = refl
closed_after (item.Entry e ∷ a) b unclosed = closed_after a b unclosed
closed_after (item.ReadFault ∷ a) b unclosed = closed_after a b unclosed
closed_after (item.StepFault ∷ a) b unclosed = absurd (cc unclosed)

-- ---- marks alone

pub entries_of-marks : (n : ℕ) → entries_of (replicate n item.ReadFault) ≡ []
entries_of-marks zero = refl
entries_of-marks (suc n) = entries_of-marks n

pub marks_of-marks : (n : ℕ) → marks_of (replicate n item.ReadFault) ≡ n
marks_of-marks zero = refl
marks_of-marks (suc n) = ap suc (marks_of-marks n)

pub open-marks : (n : ℕ) → is_closed (replicate n item.ReadFault) ≡ false
open-marks zero = refl
open-marks (suc n) = open-marks n

-- ---- rows

pub entries_of-rows : (tells : Bool) (rows : List Row) (ps : List (List ℕ)) → entries_of (told_rows tells rows ps) ≡ entries_at tells rows ps
entries_of-rows tells [] ps = refl
entries_of-rows tells (r ∷ rows) ps =
    let e : Entry = entry_at tells (first_payload ps) r.entry in
    let rest : List Item = told_rows tells rows (drop 1 ps) in
    entries_of-append (replicate r.marks item.ReadFault) (item.Entry e ∷ rest)
    ∙ ap (λ (l : List Entry). l ++ e ∷ entries_of rest) (entries_of-marks r.marks)
    ∙ ap (λ (l : List Entry). e ∷ l) (entries_of-rows tells rows (drop 1 ps))

pub open-rows : (tells : Bool) (rows : List Row) (ps : List (List ℕ)) → is_closed (told_rows tells rows ps) ≡ false
open-rows tells [] ps = refl
open-rows tells (r ∷ rows) ps =
    closed_after (replicate r.marks item.ReadFault) (item.Entry (entry_at tells (first_payload ps) r.entry) ∷ told_rows tells rows (drop 1 ps)) (open-marks r.marks)
    ∙ open-rows tells rows (drop 1 ps)

pub entries_of-failed : (failed : Option ℕ) → entries_of (told_failed failed) ≡ []
entries_of-failed None = refl
entries_of-failed (Some n) = entries_of-marks n

pub closed-failed : (failed : Option ℕ) → is_closed (told_failed failed) ≡ is_some failed
closed-failed None = refl
closed-failed (Some n) = refl

pub entries_of-told : (tells : Bool) (rows : List Row) (ps : List (List ℕ)) (here : ℕ) (failed : Option ℕ)
    → entries_of (told_of tells rows ps here failed) ≡ entries_at tells rows ps
entries_of-told tells rows ps here failed =
    let told : List Item = told_rows tells rows ps in
    let marks : List Item = replicate here item.ReadFault in
    entries_of-append (told ++ marks) (told_failed failed)
    ∙ ap (λ (l : List Entry). entries_of (told ++ marks) ++ l) (entries_of-failed failed)
    ∙ append-nil (entries_of (told ++ marks))
    ∙ entries_of-append told marks
    ∙ ap (λ (l : List Entry). entries_of told ++ l) (entries_of-marks here)
    ∙ append-nil (entries_of told)
    ∙ entries_of-rows tells rows ps

pub closed-told : (tells : Bool) (rows : List Row) (ps : List (List ℕ)) (here : ℕ) (failed : Option ℕ)
    → is_closed (told_of tells rows ps here failed) ≡ is_some failed
closed-told tells rows ps here failed =
    let told : List Item = told_rows tells rows ps in
    let marks : List Item = replicate here item.ReadFault in
    closed_after (told ++ marks) (told_failed failed) (closed_after told marks (open-rows tells rows ps) ∙ open-marks here)
    ∙ closed-failed failed

-- ---- the same rows over other payloads

pub entry_unread : (p q : List ℕ) (s : Stored) → entry_at false p s ≡ entry_at false q s
entry_unread p q (OnDisk deposit) = refl
entry_unread p q (Whole e) = refl

pub rows_unread : (rows : List Row) (ps qs : List (List ℕ)) → told_rows false rows ps ≡ told_rows false rows qs
rows_unread [] ps qs = refl
rows_unread (r ∷ rows) ps qs =
    let put : Entry → List Item → List Item = λ e items. replicate r.marks item.ReadFault ++ item.Entry e ∷ items in
    ap (λ (e : Entry). put e (told_rows false rows (drop 1 ps))) (entry_unread (first_payload ps) (first_payload qs) r.entry)
    ∙ ap (put (entry_at false (first_payload qs) r.entry)) (rows_unread rows (drop 1 ps) (drop 1 qs))

pub entries_unread : (rows : List Row) (ps qs : List (List ℕ)) → entries_at false rows ps ≡ entries_at false rows qs
entries_unread [] ps qs = refl
entries_unread (r ∷ rows) ps qs =
    ap (λ (e : Entry). e ∷ entries_at false rows (drop 1 ps)) (entry_unread (first_payload ps) (first_payload qs) r.entry)
    ∙ ap (λ (l : List Entry). entry_at false (first_payload qs) r.entry ∷ l) (entries_unread rows (drop 1 ps) (drop 1 qs))

-- a call that leaves the payloads, where the disk tells them
pub rows_same : (tells : Bool) (rows : List Row) (ps qs : List (List ℕ)) → (IsTrue tells → qs ≡ ps) → told_rows tells rows qs ≡ told_rows tells rows ps
rows_same true rows ps qs same = ap (told_rows true rows) (same refl)
rows_same false rows ps qs same = rows_unread rows qs ps

pub entries_same : (tells : Bool) (rows : List Row) (ps qs : List (List ℕ)) → (IsTrue tells → qs ≡ ps) → entries_at tells rows qs ≡ entries_at tells rows ps
entries_same true rows ps qs same = ap (entries_at true rows) (same refl)
entries_same false rows ps qs same = entries_unread rows qs ps

pub told_same : (tells : Bool) (rows : List Row) (ps qs : List (List ℕ)) (here : ℕ) (failed : Option ℕ) → (IsTrue tells → qs ≡ ps)
    → told_of tells rows qs here failed ≡ told_of tells rows ps here failed
told_same tells rows ps qs here failed same =
    ap (λ (l : List Item). l ++ replicate here item.ReadFault ++ told_failed failed) (rows_same tells rows ps qs same)

pub count_entries : (tells : Bool) (rows : List Row) (ps : List (List ℕ)) → length (entries_at tells rows ps) ≡ length rows
count_entries tells [] ps = refl
count_entries tells (r ∷ rows) ps = ap suc (count_entries tells rows (drop 1 ps))

-- ---- a row more

pub rows_true : (rows : List Row) (ps : List (List ℕ)) (r : Row) (p : List ℕ) (e : Entry) → length ps ≡ length rows → entry_at true p r.entry ≡ e
    → told_rows true (rows ++ r ∷ []) (ps ++ p ∷ []) ≡ told_rows true rows ps ++ (replicate r.marks item.ReadFault ++ item.Entry e ∷ [])
rows_true [] [] r p e long is = ap (λ (f : Entry). replicate r.marks item.ReadFault ++ item.Entry f ∷ []) is
rows_true [] (q ∷ ps) r p e long is = absurd (omega (arith, long))
rows_true (s ∷ rows) [] r p e long is = absurd (omega (arith, long))
rows_true (s ∷ rows) (q ∷ ps) r p e long is =
    let front : List Item = replicate s.marks item.ReadFault in
    let first : Item = item.Entry (entry_at true q s.entry) in
    let more : List Item = replicate r.marks item.ReadFault ++ item.Entry e ∷ [] in
    let shorter : length ps ≡ length rows = omega (arith, long) in
    ap (λ (l : List Item). front ++ first ∷ l) (rows_true rows ps r p e shorter is)
    ∙ sym (append_assoc front (first ∷ told_rows true rows ps) more)

pub rows_false : (rows : List Row) (ps qs : List (List ℕ)) (r : Row) (e : Entry) → ((p : List ℕ) → entry_at false p r.entry ≡ e)
    → told_rows false (rows ++ r ∷ []) qs ≡ told_rows false rows ps ++ (replicate r.marks item.ReadFault ++ item.Entry e ∷ [])
rows_false [] ps qs r e is = ap (λ (f : Entry). replicate r.marks item.ReadFault ++ item.Entry f ∷ []) (is (first_payload qs))
rows_false (s ∷ rows) ps qs r e is =
    let front : List Item = replicate s.marks item.ReadFault in
    let first : Item = item.Entry (entry_at false (first_payload ps) s.entry) in
    let more : List Item = replicate r.marks item.ReadFault ++ item.Entry e ∷ [] in
    ap (λ (f : Entry). front ++ item.Entry f ∷ told_rows false (rows ++ r ∷ []) (drop 1 qs)) (entry_unread (first_payload qs) (first_payload ps) s.entry)
    ∙ ap (λ (l : List Item). front ++ first ∷ l) (rows_false rows (drop 1 ps) (drop 1 qs) r e is)
    ∙ sym (append_assoc front (first ∷ told_rows false rows (drop 1 ps)) more)

-- The payloads have one more, which is this entry's; where the disk doesn't tell them, they say nothing.
abbrev pub IsRowOf : Bool → List ℕ → Stored → Entry → Type 0
IsRowOf tells text s e = (p : List ℕ) → (IsTrue tells → p ≡ text) → entry_at tells p s ≡ entry_told tells e

pub rows_more : (tells : Bool) (rows : List Row) (ps qs : List (List ℕ)) (r : Row) (text : List ℕ) (e : Entry)
    → (IsTrue tells → length ps ≡ length rows) → (IsTrue tells → qs ≡ ps ++ text ∷ []) → IsRowOf tells text r.entry e
    → told_rows tells (rows ++ r ∷ []) qs ≡ told_rows tells rows ps ++ (replicate r.marks item.ReadFault ++ item.Entry (entry_told tells e) ∷ [])
rows_more true rows ps qs r text e long more is = ap (told_rows true (rows ++ r ∷ [])) (more refl) ∙ rows_true rows ps r text e (long refl) (is text (λ t. refl))
rows_more false rows ps qs r text e long more is = rows_false rows ps qs r (blank e) (λ p. is p (λ t. absurd (cc t)))

-- with the marks since the last entry in the new row
pub told_more : (tells : Bool) (rows : List Row) (ps qs : List (List ℕ)) (r : Row) (text : List ℕ) (e : Entry)
    → (IsTrue tells → length ps ≡ length rows) → (IsTrue tells → qs ≡ ps ++ text ∷ []) → IsRowOf tells text r.entry e
    → told_of tells (rows ++ r ∷ []) qs 0 None ≡ told_of tells rows ps r.marks None ++ item.Entry (entry_told tells e) ∷ []
told_more tells rows ps qs r text e long more is =
    let told : List Item = told_rows tells rows ps in
    let marks : List Item = replicate r.marks item.ReadFault in
    let last : List Item = item.Entry (entry_told tells e) ∷ [] in
    append-nil (told_rows tells (rows ++ r ∷ []) qs ++ [])
    ∙ append-nil (told_rows tells (rows ++ r ∷ []) qs)
    ∙ rows_more tells rows ps qs r text e long more is
    ∙ sym (append_assoc told marks last)
    ∙ ap (λ (l : List Item). l ++ last) (sym (append-nil (told ++ marks)))

pub told_failed_more : (tells : Bool) (rows : List Row) (ps : List (List ℕ)) (here : ℕ)
    → told_of tells rows ps here (Some 0) ≡ told_of tells rows ps here None ++ item.StepFault ∷ []
told_failed_more tells rows ps here =
    let before : List Item = told_rows tells rows ps ++ replicate here item.ReadFault in
    ap (λ (l : List Item). l ++ item.StepFault ∷ []) (sym (append-nil before))

-- ---- how many marks

marks_rows : (tells : Bool) (rows : List Row) (ps : List (List ℕ)) → marks_of (told_rows tells rows ps) ≡ row_marks rows
marks_rows tells [] ps = refl
marks_rows tells (r ∷ rows) ps =
    let rest : List Item = told_rows tells rows (drop 1 ps) in
    omega (
      arith,
      marks_of-append (replicate r.marks item.ReadFault) (item.Entry (entry_at tells (first_payload ps) r.entry) ∷ rest),
      marks_of-marks r.marks,
      marks_rows tells rows (drop 1 ps),
      sum_by-cons (λ (r : Row). r.marks) r rows,
    )

marks_failed : (failed : Option ℕ) → marks_of (told_failed failed) ≡ count_failed failed
marks_failed None = refl
marks_failed (Some n) = omega (arith, marks_of-marks n)

pub marks_told : (tells : Bool) (rows : List Row) (ps : List (List ℕ)) (here : ℕ) (failed : Option ℕ)
    → marks_of (told_of tells rows ps here failed) ≡ row_marks rows + here + count_failed failed
marks_told tells rows ps here failed =
    let told : List Item = told_rows tells rows ps in
    let marks : List Item = replicate here item.ReadFault in
    omega (
      arith,
      marks_of-append (told ++ marks) (told_failed failed),
      marks_of-append told marks,
      marks_rows tells rows ps,
      marks_of-marks here,
      marks_failed failed,
    )

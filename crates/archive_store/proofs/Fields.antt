-- What a store keeps of its fields, after each answer of a step.
use Rattle.std.proofs.Common.{◌≡◌, ◌⊎◌, inl, inr, ⊎_elim, ℕ, suc, ◌+◌, ◌-◌, ◌<◌, ◌≤◌, ◌^◌, Bool, true, false, IsTrue, List, [], ◌∷◌, ◌++◌, map, length, Option, Some, None, is_some, refl, sym, ap, subst, ◌∙◌, arith}
use Rattle.std.proofs.lemmas.List.{length-append}
use Rattle.std.proofs.lemmas.List.Sums.{sum_by-cons, sum_by-append}
use Rattle.ev_world.specs.Causes.{Rose}
use Rattle.ev_world.specs.Disk.{LeavesOnly}
use Rattle.ev_world.proofs.Moments.{started, weakly}
use Rattle.gate_journal.specs.Journal.{Reads, max_journal, image}
use Rattle.gate_journal.specs.View.{View, end_from}
use Rattle.gate_journal.specs.Appending.{length_with, append_fault, IsNotAdded}
use Rattle.gate_journal.specs.declared.fault.JournalFault.{JournalFault}
use Rattle.gate_journal.specs.declared.fault.JournalFault.TheVariants as journal
use Rattle.gate_journal.proofs.Appending.{not_refused_short, full_long, broken_so}
use Rattle.gate_journal.proofs.FrameBytes.{length-frames, length-image-push}
use Rattle.entry_codec.specs.declared.entry.Entry.{Entry}
use Rattle.entry_codec.specs.Spelling.{IsEntry, entry_spelling}
use Rattle.archive_chain.specs.Kept.{Kept, groups_of}
use Rattle.archive_chain.specs.Rules.{shape_rule, Keeps}
use Rattle.archive_chain.specs.History.{state_of, leaves_of, Legal, LegalButImprint}
use Rattle.archive_chain.specs.Held.{Held, Agrees, StandsFor, Takes, IsAsBefore}
use Rattle.archive_store.specs.declared.item.Item.{Item}
use Rattle.archive_store.specs.declared.item.Item.TheVariants as item
use Rattle.archive_store.specs.declared.row.Stored.{Stored}
use Rattle.archive_store.specs.declared.row.Row.{Row}
use Rattle.archive_store.specs.declared.fault.StoreFault.{StoreFault}
use Rattle.archive_store.specs.declared.fault.StoreFault.TheVariants as fault
use Rattle.archive_store.specs.Told.{entries_of, marks_of, is_closed, entry_told}
use Rattle.archive_store.specs.Images.{ReadsHistory, ReadsBeforeOrAfter, Leaves}
use Rattle.archive_store.specs.Store.{Telling, IsStore, size_after}
use Rattle.archive_store.specs.Rows.{told_of}
use Rattle.archive_store.specs.Answers.{IsIdle, IsUndone}
use Rattle.archive_store.specs.InsideRows.{entries_at, IsStored, AreRows, row_marks}
use Rattle.archive_store.specs.InsideStore.{count_failed, IsInside, IsUnready}
use Rattle.archive_store.proofs.Telling.{entries_of-told, closed-told, marks_told, told_more, told_failed_more, told_same, entries_same, count_entries}
use Rattle.archive_store.proofs.Stored.{row_of_entry}
use Rattle.archive_store.proofs.Histories.{entries_kept, told_known, texts}
use Rattle.archive_store.proofs.Groups.{few_groups}
use Rattle.archive_store.proofs.Keeping.{many, count, rows_as, rows_before, legal_then, entries_then, rows_then}

-- one fault more
pub marks_more : (base marks faults later : ℕ) → (base + marks ≤ faults) ⊎ (2 ^ 64 - 1 ≤ faults) → faults ≤ later → Rose faults later
    → (base + suc marks ≤ later) ⊎ (2 ^ 64 - 1 ≤ later)
marks_more base marks faults later few le rose = grind (arith, few, le, rose)

-- what every store keeps, of what it tells
pub store_of : (tells : Bool) (images : List ℕ → Type 0) (faults base : ℕ) (archive : Held) (lengths : List ℕ) (payloads : List (List ℕ)) (broken : Bool) (rows : List Row)
    (here : ℕ) (failed : Option ℕ) → IsInside tells images faults base archive lengths payloads broken rows here failed
    → IsStore tells images faults base (told_of tells rows payloads here failed) archive
store_of tells images faults base archive lengths payloads broken rows here failed is =
    let told : List Item = told_of tells rows payloads here failed in
    let all : entries_of told ≡ entries_at tells rows payloads = entries_of-told tells rows payloads here failed in
    let closed : is_closed told ≡ is_some failed = closed-told tells rows payloads here failed in
    let marks : marks_of told ≡ row_marks rows + here + count_failed failed = marks_told tells rows payloads here failed in
    record {
      few = omega (arith, is.few, ap length all, count_entries tells rows payloads);
      agrees = subst (Agrees archive) (sym all) is.rows_are.agrees;
      but_imprint = subst LegalButImprint (sym all) is.rows_are.but_imprint;
      stands = λ known. subst (StandsFor archive) (sym all) (is.rows_are.stands known);
      legal = λ known. subst Legal (sym all) (is.rows_are.legal known);
      marks = ⊎_elim (λ few. inl (omega (arith, few, marks))) (λ full. inr full) is.marks;
      left = λ known c image. subst (λ (b : Bool). Leaves b (entries_of told) c) (sym closed)
          (subst (λ (l : List Entry). Leaves (is_some failed) l c) (sym all) (is.left known c image));
    }

module _ (tells : Bool) (images : List ℕ → Type 0) (faults base : ℕ) (old : Held)
    (lengths : List ℕ) (payloads : List (List ℕ)) (broken : Bool) (rows : List Row) (here : ℕ) where
  abbrev Before : Option ℕ → Type 0
  Before failed = IsInside tells images faults base old lengths payloads broken rows here failed

  abbrev entries : List Entry
  entries = entries_at tells rows payloads

  -- nothing happened, but the archive may have other room
  pub idle : (failed : Option ℕ) → Before failed → (new : Held) → IsAsBefore old new → IsInside tells images faults base new lengths payloads broken rows here failed
  idle failed is new same = record {
    rows_are = rows_before tells lengths payloads rows old is.rows_are new same;
    few = is.few;
    marks = is.marks;
    left = is.left;
    cap = is.cap;
    broken_is = is.broken_is;
  }

  -- the entry that comes
  module _ (is : Before None) (e : Entry) (leaves : List (List ℕ)) (spelled : IsEntry e) (keeps : Keeps old.kept old.policy e leaves)
      (are : IsTrue tells → leaves ≡ leaves_of old.kept old.trees (state_of entries).documents e) where
    abbrev told : List Item
    told = told_of tells rows payloads here None

    -- what an append leaves, as histories
    pub left_one : IsTrue tells → (c : List ℕ) → Reads c payloads ⊎ Reads c (payloads ++ entry_spelling e ∷ []) → ReadsBeforeOrAfter entries e c
    left_one known c r =
        let same : payloads ≡ map entry_spelling entries = is.rows_are.spelled known in
        let more : payloads ++ entry_spelling e ∷ [] ≡ map entry_spelling (entries ++ e ∷ []) = ap (λ (l : List (List ℕ)). l ++ entry_spelling e ∷ []) same ∙ sym (texts entries e) in
        ⊎_elim (λ (r : Reads c payloads). inl (record { reads = subst (Reads c) same r; legal = is.rows_are.legal known }))
        (λ (r : Reads c (payloads ++ entry_spelling e ∷ [])). inr (record {
          reads = subst (Reads c) more r;
          legal = legal_then tells lengths payloads rows old is.rows_are e leaves spelled keeps are known;
        })) r

    pub moment : {D : Type 0} (clock : D → ℕ) (since : D → ℕ → List ℕ → Type 0) (first mid last : D) (between : List (List ℕ)) (p : List ℕ) → mid ≡ first → between ≡ payloads → p ≡ entry_spelling e
        → IsTrue tells → LeavesOnly clock since mid last (λ c. Reads c between ⊎ Reads c (between ++ p ∷ [])) → LeavesOnly clock since first last (ReadsBeforeOrAfter (entries_of told) e)
    moment {D} clock since first mid last between p same_disk same text known run =
        let both : between ++ p ∷ [] ≡ payloads ++ entry_spelling e ∷ [] = ap (λ (l : List (List ℕ)). l ++ p ∷ []) same ∙ ap (λ (l : List ℕ). payloads ++ l ∷ []) text in
        let all : entries_of told ≡ entries = entries_of-told tells rows payloads here None in
        subst (λ (d : D). LeavesOnly clock since d last (ReadsBeforeOrAfter (entries_of told) e)) same_disk
        (weakly clock since mid last _ _ run (λ c r. subst (λ (h : List Entry). ReadsBeforeOrAfter h e c) (sym all) (left_one known c
        (⊎_elim (λ (r : Reads c between). inl (subst (Reads c) same r)) (λ (r : Reads c (between ++ p ∷ [])). inr (subst (Reads c) both r)) r))))

    -- Ok
    module _ (left : List ℕ → Type 0) (later : ℕ) (new : Held) (more_lengths : List ℕ) (more : List (List ℕ)) (s : Stored) (stored : IsStored e s)
        (lengths_are : more_lengths ≡ lengths ++ length (entry_spelling e) ∷ []) (more_are : IsTrue tells → more ≡ payloads ++ entry_spelling e ∷ []) where
      abbrev row : Row
      row = record { marks = here; entry = s }

      pub told_then : told_of tells (rows ++ row ∷ []) more 0 None ≡ told ++ item.Entry (entry_told tells e) ∷ []
      told_then = told_more tells rows payloads more row (entry_spelling e) e (many tells lengths payloads rows old is.rows_are) more_are (row_of_entry tells e s spelled stored)

      known_then : IsTrue tells → entries_at tells (rows ++ row ∷ []) more ≡ entries ++ e ∷ []
      known_then known =
          entries_then tells lengths payloads rows old is.rows_are e leaves spelled keeps are s stored here more more_are ∙ ap (λ (f : Entry). entries ++ f ∷ []) (told_known tells e known)

      pub done : Takes old e leaves new → length more_lengths < 2 ^ 32 → faults ≤ later → (IsTrue tells → (c : List ℕ) → left c → Reads c more)
          → IsInside tells left later base new more_lengths more false (rows ++ row ∷ []) 0 None
      done takes few risen reads =
          let marks : row_marks (rows ++ row ∷ []) ≡ row_marks rows + here =
          omega (arith, sum_by-append (λ (r : Row). r.marks) rows (row ∷ []), sum_by-cons (λ (r : Row). r.marks) row []) in
          record {
            rows_are = subst (λ (l : List ℕ). AreRows tells l more (rows ++ row ∷ []) new) (sym lengths_are)
                (rows_then tells lengths payloads rows old is.rows_are e leaves spelled keeps are s stored here more more_are new takes);
            few = omega (
              arith,
              few,
              ap length lengths_are,
              length-append lengths (length (entry_spelling e) ∷ []),
              count tells lengths payloads rows old is.rows_are,
              length-append rows (row ∷ []),
            );
            marks = ⊎_elim (λ below. inl (omega (arith, below, risen, marks))) (λ full. inr (omega (arith, full, risen))) is.marks;
            left = λ known c image. inl (subst (ReadsHistory c) (sym (known_then known)) (record {
              reads = subst (Reads c) (more_are known ∙ ap (λ (l : List (List ℕ)). l ++ entry_spelling e ∷ []) (is.rows_are.spelled known) ∙ sym (texts entries e)) (reads known c image);
              legal = legal_then tells lengths payloads rows old is.rows_are e leaves spelled keeps are known;
            }));
            cap = omega arith;
            broken_is = refl;
          }

    -- DiskFault
    pub told_torn : (same : List (List ℕ)) → (IsTrue tells → same ≡ payloads) → told_of tells rows same here (Some 0) ≡ told ++ item.StepFault ∷ []
    told_torn same are_same = told_same tells rows payloads same here (Some 0) are_same ∙ told_failed_more tells rows payloads here

    pub torn : (left : List ℕ → Type 0) (later : ℕ) (new : Held) (same : List (List ℕ)) → (IsTrue tells → same ≡ payloads) → IsAsBefore old new
        → faults ≤ later → Rose faults later
        → (IsTrue tells → (c : List ℕ) → left c → Reads c payloads ⊎ Reads c (payloads ++ entry_spelling e ∷ []))
        → IsInside tells left later base new lengths same true rows here (Some 0)
    torn left later new same are_same before risen rose reads =
        let more = marks_more base (row_marks rows + here + count_failed None) faults later is.marks risen rose in
        record {
          rows_are = rows_before tells lengths same rows old (rows_as tells lengths payloads rows old is.rows_are same are_same) new before;
          few = is.few;
          marks = ⊎_elim (λ below. inl (omega (arith, below))) (λ full. inr full) more;
          left = λ known c image. subst (λ (h : List Entry). Leaves true h c) (sym (entries_same tells rows payloads same are_same))
              (⊎_elim (λ (r : ReadsHistory c entries). inl r) (λ (r : ReadsHistory c (entries ++ e ∷ [])). inr (refl, (e, r))) (left_one known c (reads known c image)));
          cap = is.cap;
          broken_is = refl;
        }

-- ---- the fields of a store that takes steps

pub as_open : (tells : Bool) (images : List ℕ → Type 0) (faults base : ℕ) (held : Held) (lengths : List ℕ) (payloads : List (List ℕ)) (broken : Bool) (rows : List Row)
    (here : ℕ) (failed : Option ℕ) → is_some failed ≡ false
    → IsInside tells images faults base held lengths payloads broken rows here failed → IsInside tells images faults base held lengths payloads broken rows here None
as_open tells images faults base held lengths payloads broken rows here None none is = is
as_open tells images faults base held lengths payloads broken rows here (Some n) none is = absurd (cc none)

pub none_of : (failed : Option ℕ) → is_some failed ≡ false → failed ≡ None
none_of None none = refl
none_of (Some n) none = absurd (cc none)

pub history_left : (closed : Bool) (h : List Entry) (c : List ℕ) → closed ≡ false → Leaves closed h c → ReadsHistory c h
history_left closed h c not left = ⊎_elim (λ (r : ReadsHistory c h). r) (λ (p : IsTrue closed × ((e : Entry) × ReadsHistory c (h ++ e ∷ []))). absurd (cc (not, p.0))) left

-- no call of the disk
pub no_moment : {D : Type 0} (tells : Bool) (images : D → List ℕ → Type 0) (clock : D → ℕ) (since : D → ℕ → List ℕ → Type 0) (d : D) (faults base : ℕ) (told : List Item) (held : Held) (e : Entry)
    → IsStore tells (images d) faults base told held → ((c : List ℕ) → since d (clock d) c → images d c) → IsTrue tells → is_closed told ≡ false
    → LeavesOnly clock since d d (ReadsBeforeOrAfter (entries_of told) e)
no_moment tells images clock since d faults base told held e is only known not =
    started clock since d _ (λ c left. inl (history_left (is_closed told) (entries_of told) c not (is.left known c (only c left))))

pub few_entries : (tells : Bool) (images : List ℕ → Type 0) (faults base : ℕ) (told : List Item) (held : Held) → IsStore tells images faults base told held
    → held.kept.entries ≡ length (entries_of told)
few_entries tells images faults base told held is = ap (λ (k : Kept). k.entries) is.agrees.kept ∙ entries_kept (entries_of told)

pub reads_as : (f : List ℕ) (between payloads : List (List ℕ)) (p text : List ℕ) → between ≡ payloads → p ≡ text
    → Reads f between ⊎ Reads f (between ++ p ∷ []) → Reads f payloads ⊎ Reads f (payloads ++ text ∷ [])
reads_as f between payloads p text same is r =
    let both : between ++ p ∷ [] ≡ payloads ++ text ∷ [] = ap (λ (l : List (List ℕ)). l ++ p ∷ []) same ∙ ap (λ (l : List ℕ). payloads ++ l ∷ []) is in
    ⊎_elim (λ (r : Reads f between). inl (subst (Reads f) same r)) (λ (r : Reads f (between ++ p ∷ [])). inr (subst (Reads f) both r)) r

-- the condition on the leaves, of the fields
pub true_leaves : {D : Type 0} (tells : Bool) (v w : Telling D) (e : Entry) (leaves : List (List ℕ)) (h : List Entry) → v ≡ w → entries_of v.told ≡ h
    → (IsTrue tells → shape_rule w.archive.kept e ≡ None → leaves ≡ leaves_of w.archive.kept w.archive.trees (state_of (entries_of w.told)).documents e)
    → Keeps v.archive.kept v.archive.policy e leaves
    → IsTrue tells → leaves ≡ leaves_of v.archive.kept v.archive.trees (state_of h).documents e
true_leaves {D} tells v w e leaves h same told_is asked keeps known =
    let Asked : Telling D → Type 0 = λ u. shape_rule u.archive.kept e ≡ None → leaves ≡ leaves_of u.archive.kept u.archive.trees (state_of (entries_of u.told)).documents e in
    subst (λ (k : List Entry). leaves ≡ leaves_of v.archive.kept v.archive.trees (state_of k).documents e) told_is
    (subst Asked (sym same) (asked known) keeps.0)

-- ---- how long the journal would be

sizes_of : (es : List Entry) → map length (map entry_spelling es) ≡ map (λ (e : Entry). length (entry_spelling e)) es
sizes_of [] = refl
sizes_of (e ∷ es) = ap (λ (l : List ℕ). length (entry_spelling e) ∷ l) (sizes_of es)

pub size_is : (told : List Item) (h : List Entry) (e : Entry) (lengths : List ℕ) (size : ℕ) → entries_of told ≡ h → lengths ≡ map (λ (f : Entry). length (entry_spelling f)) h
    → size ≡ length (entry_spelling e) → end_from 16 lengths + size + 38 ≡ size_after told e
size_is told h e lengths size all sizes long =
    let texts_are : map entry_spelling (h ++ e ∷ []) ≡ map entry_spelling h ++ entry_spelling e ∷ [] = texts h e in
    let last = length-image-push (map entry_spelling h) (entry_spelling e) in
    let front = length-frames (map entry_spelling h) 16 in
    let same : end_from 16 (map length (map entry_spelling h)) ≡ end_from 16 lengths = ap (end_from 16) (sizes_of h ∙ sym sizes) in
    let whole : end_from 16 lengths + size + 38 ≡ length (image (map entry_spelling h ++ entry_spelling e ∷ [])) + 1 = omega (arith, last, front, same, long) in
    whole ∙ ap (λ (l : List (List ℕ)). length (image l) + 1) (sym texts_are) ∙ ap (λ (l : List Entry). length (image (map entry_spelling (l ++ e ∷ []))) + 1) (sym all)

-- ---- before the entry is written

-- fewer than 2^32 entries, and no more groups than there may be
pub few_kept : (tells : Bool) (images : List ℕ → Type 0) (faults base : ℕ) (archive : Held) (lengths : List ℕ) (payloads : List (List ℕ)) (broken : Bool) (rows : List Row)
    (here : ℕ) (failed : Option ℕ) → IsInside tells images faults base archive lengths payloads broken rows here failed → archive.kept.entries < 2 ^ 32
few_kept tells images faults base archive lengths payloads broken rows here failed is =
    omega (
      arith,
      is.few,
      ap (λ (k : Kept). k.entries) is.rows_are.agrees.kept,
      entries_kept (entries_at tells rows payloads),
      count_entries tells rows payloads,
    )

pub few_grouped : (tells : Bool) (images : List ℕ → Type 0) (faults base : ℕ) (archive : Held) (lengths : List ℕ) (payloads : List (List ℕ)) (broken : Bool) (rows : List Row)
    (here : ℕ) (failed : Option ℕ) → IsInside tells images faults base archive lengths payloads broken rows here failed → groups_of archive.kept ≤ 65536
few_grouped tells images faults base archive lengths payloads broken rows here failed is =
    omega (arith, few_groups (entries_at tells rows payloads) is.rows_are.but_imprint, ap groups_of is.rows_are.agrees.kept)

-- why an entry isn't ready, as an answer
pub unready : {D : Type 0} (tells : Bool) (images : D → List ℕ → Type 0) (faults : D → ℕ) (old new : Telling D) (e : Entry) (leaves : List (List ℕ)) (f : StoreFault)
    → IsIdle old new → IsUnready old.archive e leaves f → IsUndone tells images faults old e leaves f new
unready tells images faults old new e leaves (fault.Refused refusal) same is = (same, inl is)
unready tells images faults old new e leaves fault.Memory same is = same
unready tells images faults old new e leaves fault.DiskFault same is = absurd is
unready tells images faults old new e leaves fault.Occupied same is = absurd is
unready tells images faults old new e leaves fault.NotFormatted same is = absurd is
unready tells images faults old new e leaves (fault.BadLength entry size) same is = absurd is
unready tells images faults old new e leaves (fault.Damaged entry kept found) same is = absurd is
unready tells images faults old new e leaves (fault.BadEntry entry place) same is = absurd is
unready tells images faults old new e leaves (fault.Illegal entry refusal) same is = absurd is
unready tells images faults old new e leaves (fault.Closed place) same is = absurd is
unready tells images faults old new e leaves (fault.Unknown id groups) same is = absurd is

-- ---- the limit of the journal

module _ {D : Type 0} (j : View D) (told : List Item) (h : List Entry) (e : Entry) (text : List ℕ) (all : entries_of told ≡ h)
    (sizes : j.lengths ≡ map (λ (f : Entry). length (entry_spelling f)) h) (is : text ≡ entry_spelling e) where
  size_with : length_with j (length text) ≡ size_after told e
  size_with = size_is told h e j.lengths (length text) all sizes (ap length is)

  pub fits : append_fault j (length text) ≡ None → size_after told e ≤ max_journal
  fits none = omega (arith, not_refused_short j (length text) none, size_with)

  pub passes : (k : ℕ) → append_fault j (length text) ≡ Some (journal.Full k) → (k ≡ size_after told e) × (max_journal < size_after told e)
  passes k full =
      let at = full_long j (length text) k full in (at.0 ∙ size_with, omega (arith, at.0, at.1, size_with))

-- a whole journal refuses a payload for its limit or a fault of the disk
pub full_or_failed : {D : Type 0} (tells : Bool) (reads : D → List ℕ) (faults : D → ℕ) (old : View D) (payload : List ℕ) (f : JournalFault) (new : View D) → old.broken ≡ false
    → IsNotAdded tells reads faults old payload f new → ((n : ℕ) → f ≡ journal.Full n → ⊥) → (f ≡ journal.DiskFault → ⊥) → ⊥
full_or_failed tells reads faults old payload (journal.Broken n) new whole is full failed = let broken = (broken_so old (length payload) n is.first).0 in absurd (cc (whole, broken))
full_or_failed tells reads faults old payload (journal.Full n) new whole is full failed = full n refl
full_or_failed tells reads faults old payload journal.DiskFault new whole is full failed = failed refl
full_or_failed tells reads faults old payload journal.Occupied new whole is full failed = is
full_or_failed tells reads faults old payload journal.NotFormatted new whole is full failed = is
full_or_failed tells reads faults old payload (journal.BadLength entry size) new whole is full failed = is
full_or_failed tells reads faults old payload (journal.Damaged entry kept found) new whole is full failed = is
full_or_failed tells reads faults old payload journal.Memory new whole is full failed = is

-- What a store tells and keeps after a read.
use Rattle.std.proofs.Common.{◌≡◌, inl, inr, ⊎_elim, ℕ, zero, suc, ◌+◌, ◌≤◌, Bool, IsTrue, List, [], ◌∷◌, ◌++◌, drop, replicate, Option, Some, None, is_some, refl, sym, ap, subst, ◌∙◌, arith, append_assoc, append-nil}
use Rattle.ev_world.specs.Causes.{Rose}
use Rattle.entry_codec.specs.declared.entry.Entry.{Entry}
use Rattle.archive_chain.specs.Held.{Held}
use Rattle.archive_store.specs.declared.item.Item.{Item}
use Rattle.archive_store.specs.declared.item.Item.TheVariants as item
use Rattle.archive_store.specs.declared.row.Row.{Row}
use Rattle.archive_store.specs.Told.{most_reads, reads_since, Marks}
use Rattle.archive_store.specs.Images.{Leaves}
use Rattle.archive_store.specs.Rows.{entry_at, first_payload, told_rows, told_failed, told_of}
use Rattle.archive_store.specs.InsideRows.{entries_at, row_marks}
use Rattle.archive_store.specs.InsideStore.{since, count_failed, IsMark, IsInside}
use Rattle.archive_store.proofs.Telling.{entries_same}
use Rattle.archive_store.proofs.Keeping.{rows_as}
use Rattle.archive_store.proofs.Fields.{marks_more}

-- ---- marks

replicate_more : {A : Type 0} (n : ℕ) (x : A) → replicate (n + 1) x ≡ replicate n x ++ x ∷ []
replicate_more {A} n x = ap (λ (m : ℕ). replicate m x) (let e : n + 1 ≡ suc n = omega arith in e) ∙ more n where
  more : (n : ℕ) → replicate (suc n) x ≡ replicate n x ++ x ∷ []
  more zero = refl
  more (suc n) = ap (λ (l : List A). x ∷ l) (more n)

told_read : (tells : Bool) (rows : List Row) (ps : List (List ℕ)) (here : ℕ) → told_of tells rows ps (here + 1) None ≡ told_of tells rows ps here None ++ item.ReadFault ∷ []
told_read tells rows ps here =
    let told : List Item = told_rows tells rows ps in
    let marks : List Item = replicate here item.ReadFault in
    append-nil (told ++ replicate (here + 1) item.ReadFault)
    ∙ ap (λ (l : List Item). told ++ l) (replicate_more here item.ReadFault)
    ∙ sym (append_assoc told marks (item.ReadFault ∷ []))
    ∙ ap (λ (l : List Item). l ++ item.ReadFault ∷ []) (sym (append-nil (told ++ marks)))

told_read_closed : (tells : Bool) (rows : List Row) (ps : List (List ℕ)) (here n : ℕ) → told_of tells rows ps here (Some (n + 1)) ≡ told_of tells rows ps here (Some n) ++ item.ReadFault ∷ []
told_read_closed tells rows ps here n =
    let before : List Item = told_rows tells rows ps ++ replicate here item.ReadFault in
    ap (λ (l : List Item). before ++ item.StepFault ∷ l) (replicate_more n item.ReadFault)
    ∙ sym (append_assoc before (item.StepFault ∷ replicate n item.ReadFault) (item.ReadFault ∷ []))

reads_over : (a b : List Item) (n : ℕ) → reads_since n (a ++ b) ≡ reads_since (reads_since n a) b
reads_over [] b n = refl
reads_over (item.Entry e ∷ a) b n = reads_over a b 0
reads_over (item.ReadFault ∷ a) b n = reads_over a b (suc n)
reads_over (item.StepFault ∷ a) b n = reads_over a b n

reads_marks : (m n : ℕ) → reads_since n (replicate m item.ReadFault) ≡ n + m
reads_marks zero n = omega arith
reads_marks (suc m) n = omega (arith, reads_marks m (suc n))

reads_rows : (tells : Bool) (rows : List Row) (ps : List (List ℕ)) → reads_since 0 (told_rows tells rows ps) ≡ 0
reads_rows tells [] ps = refl
reads_rows tells (r ∷ rows) ps =
    reads_over (replicate r.marks item.ReadFault) (item.Entry (entry_at tells (first_payload ps) r.entry) ∷ told_rows tells rows (drop 1 ps)) 0 ∙ reads_rows tells rows (drop 1 ps)

reads_failed : (failed : Option ℕ) (n : ℕ) → reads_since n (told_failed failed) ≡ n + since failed
reads_failed None n = omega arith
reads_failed (Some m) n = reads_marks m n

reads_told : (tells : Bool) (rows : List Row) (ps : List (List ℕ)) (here : ℕ) (failed : Option ℕ) → reads_since 0 (told_of tells rows ps here failed) ≡ here + since failed
reads_told tells rows ps here failed =
    let told : List Item = told_rows tells rows ps in
    let marks : List Item = replicate here item.ReadFault in
    reads_over (told ++ marks) (told_failed failed) 0 ∙ ap (λ (n : ℕ). reads_since n (told_failed failed)) (reads_over told marks 0 ∙ ap (λ (n : ℕ). reads_since n marks) (reads_rows tells rows ps))
    ∙ reads_failed failed (reads_since 0 marks) ∙ ap (λ (n : ℕ). n + since failed) (let e : 0 + here ≡ here = omega arith in reads_marks here 0 ∙ e)

pub told_marked : (tells : Bool) (rows : List Row) (ps : List (List ℕ)) (here : ℕ) (failed : Option ℕ) (later : ℕ) (then : Option ℕ) → IsMark here failed later then
    → Marks (told_of tells rows ps here failed) (told_of tells rows ps later then)
told_marked tells rows ps here None later then mark =
    ⊎_elim (λ (m : (later ≡ here + 1) × (then ≡ None)). inl (ap (λ (n : ℕ). told_of tells rows ps n then) m.0 ∙ ap (told_of tells rows ps (here + 1)) m.1 ∙ told_read tells rows ps here))
    (λ (m : (later ≡ here) × (then ≡ None) × (here ≡ most_reads)). inr (
      ap (λ (n : ℕ). told_of tells rows ps n then) m.0 ∙ ap (told_of tells rows ps here) m.1,
      omega (arith, reads_told tells rows ps here None, m.2),
    )) mark
told_marked tells rows ps here (Some n) later then mark =
    ⊎_elim (λ (m : (later ≡ here) × (then ≡ Some (n + 1))). inl (ap (λ (k : ℕ). told_of tells rows ps k then) m.0 ∙ ap (told_of tells rows ps here) m.1 ∙ told_read_closed tells rows ps here n))
    (λ (m : (later ≡ here) × (then ≡ Some n) × (here + n ≡ most_reads)). inr (
      ap (λ (k : ℕ). told_of tells rows ps k then) m.0 ∙ ap (told_of tells rows ps here) m.1,
      reads_told tells rows ps here (Some n) ∙ m.2,
    )) mark

some_marked : (here : ℕ) (failed : Option ℕ) (later : ℕ) (then : Option ℕ) → IsMark here failed later then → is_some then ≡ is_some failed
some_marked here None later then mark = ⊎_elim (λ (m : (later ≡ here + 1) × (then ≡ None)). ap is_some m.1) (λ (m : (later ≡ here) × (then ≡ None) × (here ≡ most_reads)). ap is_some m.1) mark
some_marked here (Some n) later then mark = ⊎_elim (λ (m : (later ≡ here) × (then ≡ Some (n + 1))). ap is_some m.1) (λ (m : (later ≡ here) × (then ≡ Some n) × (here + n ≡ most_reads)). ap is_some m.1) mark

-- one mark more, or none
counted : (here : ℕ) (failed : Option ℕ) (later : ℕ) (then : Option ℕ) → IsMark here failed later then → later + count_failed then ≤ here + count_failed failed + 1
counted here None later then mark =
    ⊎_elim (λ (m : (later ≡ here + 1) × (then ≡ None)). omega (arith, m.0, ap count_failed m.1)) (λ (m : (later ≡ here) × (then ≡ None) × (here ≡ most_reads)). omega (arith, m.0, ap count_failed m.1)) mark
counted here (Some n) later then mark =
    ⊎_elim (λ (m : (later ≡ here) × (then ≡ Some (n + 1))). omega (arith, m.0, ap count_failed m.1)) (λ (m : (later ≡ here) × (then ≡ Some n) × (here + n ≡ most_reads)). omega (arith, m.0, ap count_failed m.1)) mark

-- ---- the fields

module _ (tells : Bool) (was : List ℕ → Type 0) (before base : ℕ) (held : Held) (lengths : List ℕ) (payloads : List (List ℕ)) (broken : Bool) (rows : List Row) (here : ℕ) (failed : Option ℕ)
    (is : IsInside tells was before base held lengths payloads broken rows here failed)
    (now : List ℕ → Type 0) (faults : ℕ) (same : List (List ℕ)) (later : before ≤ faults) (no_more : IsTrue tells → (c : List ℕ) → now c → was c)
    (are_same : IsTrue tells → same ≡ payloads) where
  left_same : (closed : Bool) → closed ≡ is_some failed → IsTrue tells → (c : List ℕ) → now c → Leaves closed (entries_at tells rows same) c
  left_same closed closed_is known c image =
      subst (λ (b : Bool). Leaves b (entries_at tells rows same) c) (sym closed_is)
      (subst (λ (h : List Entry). Leaves (is_some failed) h c) (sym (entries_same tells rows payloads same are_same)) (is.left known c (no_more known c image)))

  pub read : IsInside tells now faults base held lengths same broken rows here failed
  read = record {
    rows_are = rows_as tells lengths payloads rows held is.rows_are same are_same;
    few = is.few;
    marks = ⊎_elim (λ few. inl (omega (arith, few, later))) (λ full. inr (omega (arith, full, later))) is.marks;
    left = left_same (is_some failed) refl;
    cap = is.cap;
    broken_is = is.broken_is;
  }

  pub misread : (after : ℕ) (then : Option ℕ) → IsMark here failed after then → after + since then ≤ most_reads → Rose before faults
      → IsInside tells now faults base held lengths same broken rows after then
  misread after then mark cap rose =
      let more = marks_more base (row_marks rows + here + count_failed failed) before faults is.marks later rose in
      record {
        rows_are = rows_as tells lengths payloads rows held is.rows_are same are_same;
        few = is.few;
        marks = ⊎_elim (λ few. inl (omega (arith, few, counted here failed after then mark))) (λ full. inr full) more;
        left = left_same (is_some then) (some_marked here failed after then mark);
        cap = cap;
        broken_is = is.broken_is ∙ sym (some_marked here failed after then mark);
      }

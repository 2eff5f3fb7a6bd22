-- What a store keeps and tells that was just opened.
use Rattle.std.proofs.Common.{◌≡◌, inl, ℕ, ◌<◌, ◌^◌, Bool, false, IsTrue, List, length, None, refl, sym, subst, ◌∙◌, arith}
use Rattle.gate_journal.specs.Journal.{Reads}
use Rattle.archive_chain.specs.Held.{Held}
use Rattle.archive_store.specs.declared.row.Row.{Row}
use Rattle.archive_store.specs.Told.{entries_of, marks_of}
use Rattle.archive_store.specs.Images.{ReadsHistory}
use Rattle.archive_store.specs.Rows.{told_of}
use Rattle.archive_store.specs.InsideRows.{entries_at}
use Rattle.archive_store.specs.InsideStore.{IsInside}
use Rattle.archive_store.specs.InsideReplay.{AreReplayed}
use Rattle.archive_store.proofs.Telling.{entries_of-told, marks_told}
use Rattle.archive_store.proofs.Keeping.{count}

pub no_marks : (tells : Bool) (lengths : List ℕ) (payloads : List (List ℕ)) (rows : List Row) (archive : Held) → AreReplayed tells lengths payloads rows archive
    → marks_of (told_of tells rows payloads 0 None) ≡ 0
no_marks tells lengths payloads rows archive is = omega (arith, marks_told tells rows payloads 0 None, is.unmarked)

pub opened : (tells : Bool) (images : List ℕ → Type 0) (faults : ℕ) (archive : Held) (lengths : List ℕ) (payloads : List (List ℕ)) (rows : List Row)
    → AreReplayed tells lengths payloads rows archive → length lengths < 2 ^ 32 → (IsTrue tells → (c : List ℕ) → images c → Reads c payloads)
    → IsInside tells images faults faults archive lengths payloads false rows 0 None
opened tells images faults archive lengths payloads rows is few reads = record {
  rows_are = is.rows_are;
  few = omega (arith, few, count tells lengths payloads rows archive is.rows_are);
  marks = inl (omega (arith, is.unmarked));
  left = λ known c image. inl (record { reads = subst (Reads c) (is.rows_are.spelled known) (reads known c image); legal = is.rows_are.legal known });
  cap = omega arith;
  broken_is = refl;
}

-- the bytes read the history that is told
pub read_history : (tells : Bool) (lengths : List ℕ) (payloads : List (List ℕ)) (rows : List Row) (archive : Held) (b : List ℕ) (before : List (List ℕ))
    → AreReplayed tells lengths payloads rows archive → IsTrue tells → Reads b before → payloads ≡ before
    → ReadsHistory b (entries_of (told_of tells rows payloads 0 None))
read_history tells lengths payloads rows archive b before is known reads same =
    let all : entries_of (told_of tells rows payloads 0 None) ≡ entries_at tells rows payloads = entries_of-told tells rows payloads 0 None in
    subst (ReadsHistory b) (sym all) (record { reads = subst (Reads b) (sym same ∙ is.rows_are.spelled known) reads; legal = is.rows_are.legal known })

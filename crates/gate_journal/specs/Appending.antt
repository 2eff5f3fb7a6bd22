-- What an append does to an open journal.
use Rattle.std.specs.Prelude.{◌≡◌, ◌⊎◌, ℕ, ◌+◌, Bool, true, false, nat_lt, if◌then◌else◌, IsTrue, List, [], ◌∷◌, ◌++◌, length, Option, Some, None}
use Rattle.ev_world.specs.Causes.{Rose}
use Rattle.ev_world.specs.Disk.{Only}
use Rattle.gate_journal.specs.Journal.{max_journal, Reads}
use Rattle.gate_journal.specs.View.{View, end_from}
use Rattle.gate_journal.specs.declared.fault.JournalFault.{JournalFault}
use Rattle.gate_journal.specs.declared.fault.JournalFault.TheVariants.{DiskFault, Occupied, NotFormatted, BadLength, Damaged, Full, Broken, Memory}

-- the length that a journal would have with one payload of this size more
abbrev pub length_with : {D : Type 0} → View D → ℕ → ℕ
length_with j size = end_from 16 j.lengths + size + 38

-- What an append answers before it touches the disk: Broken with the number of the frame whose append failed, then Full with the
-- length that passes the limit.
unfoldable pub append_fault : {D : Type 0} → View D → ℕ → Option JournalFault
append_fault j size = if j.broken then Some (Broken (length j.lengths)) else if nat_lt max_journal (length_with j size) then Some (Full (length_with j size)) else None

-- The frame of this payload was added under this number. A read gives it behind those of before, and every crash from now on leaves
-- what a read gives.
pub record IsAdded {D : Type 0} (tells : Bool) (reads : D → List ℕ) (images : D → List ℕ → Type 0) (old : View D) (payload : List ℕ) (number : ℕ) (new : View D) : Type 0 where
  pub not_refused : append_fault old (length payload) ≡ None
  pub number_is : number ≡ length old.lengths
  pub lengths : new.lengths ≡ old.lengths ++ length payload ∷ []
  pub payloads : IsTrue tells → new.payloads ≡ old.payloads ++ payload ∷ []
  pub frames : IsTrue tells → Reads (reads new.disk) new.payloads
  pub durable : IsTrue tells → Only (reads new.disk) (images new.disk)
  pub spare : new.spare + 1 ≡ old.spare
  pub still_open : new.broken ≡ false

-- The disk failed while the frame was written. The journal is broken from then on, with the frames of before; on the disk the frame
-- is there whole, or not at all.
pub record IsBrokenBy {D : Type 0} (tells : Bool) (reads : D → List ℕ) (faults : D → ℕ) (old : View D) (payload : List ℕ) (new : View D) : Type 0 where
  pub not_refused : append_fault old (length payload) ≡ None
  pub lengths : new.lengths ≡ old.lengths
  pub payloads : IsTrue tells → new.payloads ≡ old.payloads
  pub spare : new.spare ≡ old.spare
  pub broken : new.broken ≡ true
  pub frames : IsTrue tells → Reads (reads new.disk) old.payloads ⊎ Reads (reads new.disk) (old.payloads ++ payload ∷ [])
  pub rose : Rose (faults old.disk) (faults new.disk)

-- The append was refused before it touched the disk, and nothing has changed.
pub record IsAppendRefused {D : Type 0} (old : View D) (payload : List ℕ) (fault : JournalFault) (new : View D) : Type 0 where
  pub first : append_fault old (length payload) ≡ Some fault
  pub same : new ≡ old

-- what each answer of an append says that is not Ok
abbrev pub IsNotAdded : {D : Type 0} → Bool → (D → List ℕ) → (D → ℕ) → View D → List ℕ → JournalFault → View D → Type 0
IsNotAdded tells reads faults old payload (Broken number) new = IsAppendRefused old payload (Broken number) new
IsNotAdded tells reads faults old payload (Full size) new = IsAppendRefused old payload (Full size) new
IsNotAdded tells reads faults old payload DiskFault new = IsBrokenBy tells reads faults old payload new
IsNotAdded tells reads faults old payload NotFormatted new = ⊥
IsNotAdded tells reads faults old payload Memory new = ⊥
IsNotAdded tells reads faults old payload Occupied new = ⊥
IsNotAdded tells reads faults old payload (BadLength entry n) new = ⊥
IsNotAdded tells reads faults old payload (Damaged entry kept found) new = ⊥

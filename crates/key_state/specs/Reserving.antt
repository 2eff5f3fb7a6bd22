-- What a reserve does to an open key state.
use Rattle.std.specs.Prelude.{◌≡◌, ℕ, ◌+◌, ◌<◌, Bool, true, false, nat_le, if◌then◌else◌, IsTrue, List, [], ◌∷◌, Option, Some, None}
use Rattle.ev_world.specs.Causes.{Rose}
use Rattle.ev_world.specs.Disk.{IsOnDisk}
use Rattle.key_state.specs.Keys.{next_index}
use Rattle.key_state.specs.View.{KeyStateView}
use Rattle.key_state.specs.declared.fault.StateFault.{StateFault}
use Rattle.key_state.specs.declared.fault.StateFault.TheVariants.{DiskFault, NotFormatted, WrongLength, Exhausted, Broken, Memory}

-- what a reserve answers before it touches the disk: Broken with the index whose write failed, then Exhausted
unfoldable pub reserve_fault : {D : Type 0} → KeyStateView D → Option StateFault
reserve_fault k = if k.broken then Some (Broken k.next) else if nat_le k.leaves k.next then Some Exhausted else None

-- The next index is given. Its byte is ff, no other byte is written, and every crash from now on leaves what a read gives.
pub record IsReserved {D : Type 0} (tells : Bool) (reads : D → List ℕ) (images : D → List ℕ → Type 0) (old : KeyStateView D) (index : ℕ) (new : KeyStateView D) : Type 0 where
  pub not_refused : reserve_fault old ≡ None
  pub index_is : index ≡ old.next
  pub within : index < old.leaves
  pub next : new.next ≡ index + 1
  pub leaves : new.leaves ≡ old.leaves
  pub still_open : new.broken ≡ false
  pub on_disk : IsTrue tells → IsOnDisk reads images old.disk new.disk (index + 16) (255 ∷ [])
  pub reads_next : IsTrue tells → next_index (reads new.disk) ≡ new.next

-- The disk failed while the index was marked. The state is broken from then on.
pub record IsReserveBroken {D : Type 0} (faults : D → ℕ) (old new : KeyStateView D) : Type 0 where
  pub not_refused : reserve_fault old ≡ None
  pub next : new.next ≡ old.next
  pub leaves : new.leaves ≡ old.leaves
  pub broken : new.broken ≡ true
  pub rose : Rose (faults old.disk) (faults new.disk)

-- The reserve was refused before it touched the disk, and nothing has changed.
pub record IsReserveRefused {D : Type 0} (old : KeyStateView D) (fault : StateFault) (new : KeyStateView D) : Type 0 where
  pub first : reserve_fault old ≡ Some fault
  pub same : new ≡ old

-- what each answer of a reserve says that is not Ok
abbrev pub IsNotReserved : {D : Type 0} → (D → ℕ) → KeyStateView D → StateFault → KeyStateView D → Type 0
IsNotReserved faults old (Broken index) new = IsReserveRefused old (Broken index) new
IsNotReserved faults old Exhausted new = IsReserveRefused old Exhausted new
IsNotReserved faults old DiskFault new = IsReserveBroken faults old new
IsNotReserved faults old NotFormatted new = ⊥
IsNotReserved faults old (WrongLength n) new = ⊥
IsNotReserved faults old Memory new = ⊥

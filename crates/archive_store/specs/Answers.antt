-- What each answer of a step and of a fetch says.
use Rattle.std.specs.Prelude.{◌≡◌, ◌≢◌, ◌⊎◌, ℕ, ◌<◌, ◌≤◌, Bool, false, IsTrue, List, [], ◌∷◌, ◌++◌, length, slice_get, Some}
use Rattle.ev_world.specs.Causes.{Rose}
use Rattle.gate_journal.specs.Journal.{max_journal}
use Rattle.entry_codec.specs.declared.entry.Entry.{Entry}
use Rattle.archive_chain.specs.declared.refusal.Refusal.{Refusal}
use Rattle.archive_chain.specs.declared.refusal.Refusal.TheVariants as rule
use Rattle.archive_chain.specs.declared.refusal.Full.TheVariants as full
use Rattle.archive_chain.specs.Kept.{groups_of}
use Rattle.archive_chain.specs.Rules.{Keeps, Breaks}
use Rattle.archive_chain.specs.History.{state_of}
use Rattle.archive_chain.specs.Held.{Takes, IsAsBefore}
use Rattle.archive_store.specs.declared.item.Item.TheVariants as item
use Rattle.archive_store.specs.declared.fault.StoreFault.{StoreFault}
use Rattle.archive_store.specs.declared.fault.StoreFault.TheVariants as fault
use Rattle.archive_store.specs.Told.{entries_of, is_closed, Marks, Adds, group_told}
use Rattle.archive_store.specs.Images.{ReadsHistory, ReadsBeforeOrAfter}
use Rattle.archive_store.specs.Store.{Telling, size_after}

-- ---- a step

-- The entry breaks no rule, no step has failed, and the journal has room for it: so it comes to the disk.
pub record MayFollow {D : Type 0} (old : Telling D) (e : Entry) (leaves : List (List ℕ)) : Type 0 where
  pub keeps : Keeps old.archive.kept old.archive.policy e leaves
  pub not_closed : is_closed old.told ≡ false
  pub fits : size_after old.told e ≤ max_journal

-- The step was done, and its entry has this number: it is told, the archive has taken it, and every crash from now on leaves it.
pub record IsDone {D : Type 0} (tells : Bool) (images : D → List ℕ → Type 0) (old : Telling D) (e : Entry) (leaves : List (List ℕ)) (number : ℕ) (new : Telling D) : Type 0 where
  pub may_follow : MayFollow old e leaves
  pub number_is : number ≡ length (entries_of old.told)
  pub told : Adds tells old.told e new.told
  pub takes : Takes old.archive e leaves new.archive
  pub base : new.base ≡ old.base
  pub durable : IsTrue tells → (c : List ℕ) → images new.disk c → ReadsHistory c (entries_of new.told)

-- nothing was written or told, and the archive keeps the same
pub record IsIdle {D : Type 0} (old new : Telling D) : Type 0 where
  pub disk : new.disk ≡ old.disk
  pub base : new.base ≡ old.base
  pub told : new.told ≡ old.told
  pub archive : IsAsBefore old.archive new.archive

-- The disk failed while the entry was written: it may be there or not, which a crash shows. The mark of the step is told.
pub record IsTorn {D : Type 0} (tells : Bool) (images : D → List ℕ → Type 0) (faults : D → ℕ) (old : Telling D) (e : Entry) (leaves : List (List ℕ)) (new : Telling D) : Type 0 where
  pub may_follow : MayFollow old e leaves
  pub rose : Rose (faults old.disk) (faults new.disk)
  pub told : new.told ≡ old.told ++ item.StepFault ∷ []
  pub base : new.base ≡ old.base
  pub archive : IsAsBefore old.archive new.archive
  pub left : IsTrue tells → (c : List ℕ) → images new.disk c → ReadsBeforeOrAfter (entries_of old.told) e c

-- The entry breaks no rule, but a step has failed: its place is the number of entries.
pub record IsClosedStep {D : Type 0} (old : Telling D) (e : Entry) (leaves : List (List ℕ)) (place : ℕ) : Type 0 where
  pub keeps : Keeps old.archive.kept old.archive.policy e leaves
  pub closed : IsTrue (is_closed old.told)
  pub place_is : place ≡ length (entries_of old.told)

-- The entry breaks no rule and no step has failed, but the journal would pass its limit with it.
pub record IsFull {D : Type 0} (old : Telling D) (e : Entry) (leaves : List (List ℕ)) (refusal : Refusal) : Type 0 where
  pub keeps : Keeps old.archive.kept old.archive.policy e leaves
  pub not_closed : is_closed old.told ≡ false
  pub past : max_journal < size_after old.told e
  pub is : refusal ≡ rule.Limit (full.Journal (size_after old.told e))

-- It breaks this rule first, or the journal's limit is passed.
abbrev pub IsRefused : {D : Type 0} → Telling D → Entry → List (List ℕ) → Refusal → Type 0
IsRefused old e leaves refusal = (Breaks old.archive.kept old.archive.policy e leaves refusal × (refusal ≢ rule.Memory)) ⊎ IsFull old e leaves refusal

-- what each answer of a step says that is not Ok
abbrev pub IsUndone : {D : Type 0} → Bool → (D → List ℕ → Type 0) → (D → ℕ) → Telling D → Entry → List (List ℕ) → StoreFault → Telling D → Type 0
IsUndone tells images faults old e leaves fault.DiskFault new = IsTorn tells images faults old e leaves new
IsUndone tells images faults old e leaves (fault.Refused refusal) new = IsIdle old new × IsRefused old e leaves refusal
IsUndone tells images faults old e leaves (fault.Closed place) new = IsIdle old new × IsClosedStep old e leaves place
IsUndone tells images faults old e leaves fault.Memory new = IsIdle old new
IsUndone tells images faults old e leaves other new = ⊥

-- ---- a fetch

-- nothing was told, and the archive is the same
pub record IsUntold {D : Type 0} (old new : Telling D) : Type 0 where
  pub base : new.base ≡ old.base
  pub told : new.told ≡ old.told
  pub archive : new.archive ≡ old.archive

-- These are the documents of the group, as it is told.
pub record IsFetched {D : Type 0} (tells : Bool) (old : Telling D) (id : ℕ) (group : List (List ℕ)) (new : Telling D) : Type 0 where
  pub known : id < groups_of old.archive.kept
  pub documents : slice_get (state_of (entries_of old.told)).documents id ≡ Some (group_told tells group)
  pub untold : IsUntold old new

-- The disk failed, and a mark of the read is told.
pub record IsMisread {D : Type 0} (faults : D → ℕ) (old : Telling D) (id : ℕ) (new : Telling D) : Type 0 where
  pub known : id < groups_of old.archive.kept
  pub rose : Rose (faults old.disk) (faults new.disk)
  pub told : Marks old.told new.told
  pub base : new.base ≡ old.base
  pub archive : new.archive ≡ old.archive

-- there are so many groups, and none with this number
pub record IsUnknown {D : Type 0} (old : Telling D) (id number groups : ℕ) : Type 0 where
  pub number_is : number ≡ id
  pub groups_are : groups ≡ groups_of old.archive.kept
  pub past : groups ≤ id

-- what each answer of a fetch says that is not Ok
abbrev pub IsUnfetched : {D : Type 0} → (D → ℕ) → Telling D → ℕ → StoreFault → Telling D → Type 0
IsUnfetched faults old id fault.DiskFault new = IsMisread faults old id new
IsUnfetched faults old id (fault.Unknown number groups) new = IsUntold old new × IsUnknown old id number groups
IsUnfetched faults old id fault.Memory new = IsUntold old new
IsUnfetched faults old id other new = ⊥

-- What every store keeps of its fields.
use Rattle.std.specs.Prelude.{◌≡◌, ◌≢◌, ◌⊎◌, ℕ, ◌+◌, ◌-◌, ◌^◌, ◌<◌, ◌≤◌, Bool, IsTrue, List, length, Option, Some, None, is_some}
use Rattle.entry_codec.specs.declared.entry.Entry.{Entry}
use Rattle.archive_chain.specs.declared.refusal.Refusal.TheVariants as rule
use Rattle.archive_chain.specs.Rules.{Breaks}
use Rattle.archive_chain.specs.Held.{Held}
use Rattle.archive_store.specs.declared.row.Row.{Row}
use Rattle.archive_store.specs.declared.fault.StoreFault.{StoreFault}
use Rattle.archive_store.specs.declared.fault.StoreFault.TheVariants as fault
use Rattle.archive_store.specs.Told.{most_reads}
use Rattle.archive_store.specs.Images.{Leaves}
use Rattle.archive_store.specs.InsideRows.{entries_at, AreRows, row_marks}

-- how many reads failed since the step that did
abbrev pub since : Option ℕ → ℕ
since None = 0
since (Some n) = n

-- the step that failed, and the reads since
abbrev pub count_failed : Option ℕ → ℕ
count_failed None = 0
count_failed (Some n) = n + 1

-- a read more that failed, or none where the most are told
abbrev pub IsMark : ℕ → Option ℕ → ℕ → Option ℕ → Type 0
IsMark here None later failed = ((later ≡ here + 1) × (failed ≡ None)) ⊎ ((later ≡ here) × (failed ≡ None) × (here ≡ most_reads))
IsMark here (Some n) later failed = ((later ≡ here) × (failed ≡ Some (n + 1))) ⊎ ((later ≡ here) × (failed ≡ Some n) × (here + n ≡ most_reads))

-- what every store keeps
pub record IsInside (tells : Bool) (images : List ℕ → Type 0) (faults base : ℕ) (archive : Held)
    (lengths : List ℕ) (payloads : List (List ℕ)) (broken : Bool) (rows : List Row) (here : ℕ) (failed : Option ℕ) : Type 0 where
  pub rows_are : AreRows tells lengths payloads rows archive
  pub few : length rows < 2 ^ 32
  pub marks : (base + (row_marks rows + here + count_failed failed) ≤ faults) ⊎ (2 ^ 64 - 1 ≤ faults)
  pub left : IsTrue tells → (c : List ℕ) → images c → Leaves (is_some failed) (entries_at tells rows payloads) c
  pub cap : here + since failed ≤ most_reads
  pub broken_is : broken ≡ is_some failed

-- why an archive doesn't take an entry
abbrev pub IsUnready : Held → Entry → List (List ℕ) → StoreFault → Type 0
IsUnready archive e leaves (fault.Refused refusal) = Breaks archive.kept archive.policy e leaves refusal × (refusal ≢ rule.Memory)
IsUnready archive e leaves fault.Memory = Unit {0}
IsUnready archive e leaves other = ⊥

-- What an opening finds, and why it can't open.
use Rattle.std.specs.Prelude.{◌≡◌, ◌≢◌, ◌⊎◌, ℕ, Bool, false, IsTrue, List, map, length, take, slice_get, Some}
use Rattle.gate_journal.specs.Journal.{Reads}
use Rattle.gate_journal.specs.Damage.{Damages}
use Rattle.gate_journal.specs.declared.fault.JournalFault.TheVariants as journal
use Rattle.algorithm_policy.specs.Content.{Content}
use Rattle.entry_codec.specs.declared.entry.Entry.{Entry}
use Rattle.entry_codec.specs.Spelling.{entry_spelling, IsEntry}
use Rattle.entry_codec.specs.Fault.{entry_first_fault}
use Rattle.archive_chain.specs.declared.refusal.Refusal.{Refusal}
use Rattle.archive_chain.specs.declared.refusal.Refusal.TheVariants as rule
use Rattle.archive_chain.specs.Rules.{Breaks}
use Rattle.archive_chain.specs.History.{State, state_of, leaves_of, InForce, Legal}
use Rattle.archive_store.specs.declared.fault.StoreFault.{StoreFault}
use Rattle.archive_store.specs.declared.fault.StoreFault.TheVariants as fault
use Rattle.archive_store.specs.Told.{entries_of, marks_of, is_closed}
use Rattle.archive_store.specs.Images.{ReadsHistory, ReadsOnlyHistory}
use Rattle.archive_store.specs.Store.{Telling}

-- A store that was just opened: it tells the history of the disk's bytes and no mark, and its base is the count of faults.
pub record IsOpened {D : Type 0} (tells : Bool) (reads : D → List ℕ) (faults : D → ℕ) (disk : D) (new : Telling D) : Type 0 where
  pub history : IsTrue tells → ReadsOnlyHistory (reads disk) (entries_of new.told)
  pub unmarked : marks_of new.told ≡ 0
  pub not_closed : is_closed new.told ≡ false
  pub base : new.base ≡ faults new.disk

-- Behind a legal history of so many entries the next payload has P.
pub record BehindHistory (payloads : List (List ℕ)) (entry : ℕ) (P : List Entry → List ℕ → Type 0) : Type 0 where
  pub history : List Entry
  pub payload : List ℕ
  pub legal : Legal history
  pub count : length history ≡ entry
  pub before : take entry payloads ≡ map entry_spelling history
  pub next : slice_get payloads entry ≡ Some payload
  pub there : P history payload

-- It is no entry: its first fault is at this place.
abbrev pub IsBadAt : ℕ → List Entry → List ℕ → Type 0
IsBadAt place history payload = entry_first_fault payload ≡ Some place

-- the entry breaks this rule first after these, over the policy in force
abbrev pub BreaksAfter : State → Entry → Refusal → Type 0
BreaksAfter s e refusal = (policy : Content) × InForce s.text policy × Breaks s.kept policy e (leaves_of s.kept s.trees s.documents e) refusal

-- It is an entry that breaks this rule first.
pub record IsAgainst (refusal : Refusal) (history : List Entry) (payload : List ℕ) : Type 0 where
  pub entry : Entry
  pub spelled : IsEntry entry
  pub is : payload ≡ entry_spelling entry
  pub breaks : BreaksAfter (state_of history) entry refusal

-- What a refusal to open says of payloads that the bytes read.
abbrev pub Spoils : List (List ℕ) → StoreFault → Type 0
Spoils payloads (fault.BadEntry entry place) = BehindHistory payloads entry (IsBadAt place)
Spoils payloads (fault.Illegal entry refusal) = BehindHistory payloads entry (IsAgainst refusal)
Spoils payloads fault.DiskFault = Unit {0}
Spoils payloads fault.Memory = Unit {0}
Spoils payloads other = ⊥

-- What a refusal to open says of the bytes: the first damage of the journal, or else the first payload that isn't a legal entry. A fault
-- of the disk and want of memory say nothing.
abbrev pub Unopens : List ℕ → StoreFault → Type 0
Unopens b fault.DiskFault = Unit {0}
Unopens b fault.Memory = Unit {0}
Unopens b fault.NotFormatted = Damages b journal.NotFormatted
Unopens b (fault.BadLength entry size) = Damages b (journal.BadLength entry size)
Unopens b (fault.Damaged entry kept found) = Damages b (journal.Damaged entry kept found)
Unopens b (fault.BadEntry entry place) = (payloads : List (List ℕ)) × Reads b payloads × Spoils payloads (fault.BadEntry entry place)
Unopens b (fault.Illegal entry refusal) = (payloads : List (List ℕ)) × Reads b payloads × Spoils payloads (fault.Illegal entry refusal)
Unopens b other = ⊥

-- the disk failed, or memory was wanting
abbrev pub IsOutside : StoreFault → Type 0
IsOutside e = (e ≡ fault.DiskFault) ⊎ (e ≡ fault.Memory)

-- The bytes are refused for this fault and for no other, and read no legal history; unless it is one of the outside.
pub record IsUnopened (b : List ℕ) (e : StoreFault) : Type 0 where
  pub unopens : Unopens b e
  pub first : (f : StoreFault) → Unopens b f → IsOutside f ⊎ (IsOutside e ⊎ (f ≡ e))
  pub completes : (h : List Entry) → ReadsHistory b h → IsOutside e

-- the answers of `open` that are not Ok
abbrev pub IsOpenFault : StoreFault → Type 0
IsOpenFault fault.DiskFault = Unit {0}
IsOpenFault fault.NotFormatted = Unit {0}
IsOpenFault (fault.BadLength entry size) = Unit {0}
IsOpenFault (fault.Damaged entry kept found) = Unit {0}
IsOpenFault (fault.BadEntry entry place) = Unit {0}
IsOpenFault (fault.Illegal entry refusal) = refusal ≢ rule.Memory
IsOpenFault fault.Memory = Unit {0}
IsOpenFault other = ⊥

-- the answers of `create` that are not Ok
abbrev pub IsCreateFault : StoreFault → Type 0
IsCreateFault e = (e ≡ fault.Occupied) ⊎ (e ≡ fault.DiskFault)

-- What private functions say of an opening that goes over the entries.
use Rattle.std.specs.Prelude.{◌≡◌, ◌≢◌, ◌⊎◌, ℕ, Bool, IsTrue, List, [], ◌∷◌, ◌++◌, Some}
use Rattle.std.specs.List.{flat_map}
use Rattle.entry_codec.specs.declared.entry.Entry.{Entry}
use Rattle.entry_codec.specs.Spelling.{entry_spelling, IsEntry}
use Rattle.entry_codec.specs.Fault.{entry_first_fault}
use Rattle.archive_chain.specs.declared.refusal.Refusal.{Refusal}
use Rattle.archive_chain.specs.declared.refusal.Refusal.TheVariants as rule
use Rattle.archive_chain.specs.Rules.{Keeps, Breaks}
use Rattle.archive_chain.specs.History.{groups_in, leaves_of}
use Rattle.archive_chain.specs.Held.{Held, Takes}
use Rattle.archive_store.specs.declared.fault.StoreFault.{StoreFault}
use Rattle.archive_store.specs.declared.fault.StoreFault.TheVariants as fault
use Rattle.archive_store.specs.declared.row.Stored.{Stored}
use Rattle.archive_store.specs.declared.row.Row.{Row}
use Rattle.archive_store.specs.InsideRows.{entries_at, IsStored, AreRows, row_marks}

-- rows without marks, and an archive, of the entries that these payloads spell
pub record AreReplayed (tells : Bool) (lengths : List ℕ) (payloads : List (List ℕ)) (rows : List Row) (archive : Held) : Type 0 where
  pub rows_are : AreRows tells lengths payloads rows archive
  pub unmarked : row_marks rows ≡ 0

-- the documents of the groups of the rows
abbrev pub documents_in : Bool → List Row → List (List ℕ) → List (List (List ℕ))
documents_in tells rows payloads = flat_map groups_in (entries_at tells rows payloads)

-- The archive has taken this entry with these leaves, and its row is behind the others.
pub record IsTaken (old : Held) (rows : List Row) (e : Entry) (leaves : List (List ℕ)) (new : Held) (more : List Row) : Type 0 where
  pub keeps : Keeps old.kept old.policy e leaves
  pub takes : Takes old e leaves new
  pub stored : Stored
  pub stored_is : IsStored e stored
  pub rows_are : more ≡ rows ++ record { marks = 0; entry = stored } ∷ []

-- The archive has taken it with the leaves over these documents, where the disk tells them.
pub record IsTakenEntry (tells : Bool) (old : Held) (documents : List (List (List ℕ))) (rows : List Row) (e : Entry) (new : Held) (more : List Row) : Type 0 where
  pub leaves : List (List ℕ)
  pub leaves_are : IsTrue tells → leaves ≡ leaves_of old.kept old.trees documents e
  pub taken : IsTaken old rows e leaves new more

-- It breaks this rule first, with the leaves over these documents, where the disk tells them.
pub record BreaksRule (tells : Bool) (old : Held) (documents : List (List (List ℕ))) (e : Entry) (refusal : Refusal) : Type 0 where
  pub leaves : List (List ℕ)
  pub leaves_are : IsTrue tells → leaves ≡ leaves_of old.kept old.trees documents e
  pub breaks : Breaks old.kept old.policy e leaves refusal
  pub not_memory : refusal ≢ rule.Memory

-- why an entry was not added: memory was wanting, or it breaks this rule first
abbrev pub IsRuleOf : Held → Entry → List (List ℕ) → Refusal → Type 0
IsRuleOf old e leaves refusal = (refusal ≡ rule.Memory) ⊎ Breaks old.kept old.policy e leaves refusal

-- why the entry with this number was not taken
abbrev pub IsNotTaken : Bool → Held → List (List (List ℕ)) → Entry → ℕ → StoreFault → Type 0
IsNotTaken tells old documents e entry (fault.Illegal number refusal) = (number ≡ entry) × BreaksRule tells old documents e refusal
IsNotTaken tells old documents e entry fault.DiskFault = Unit {0}
IsNotTaken tells old documents e entry fault.Memory = Unit {0}
IsNotTaken tells old documents e entry other = ⊥

-- The payload spells the entry that was taken.
pub record IsNext (tells : Bool) (old : Held) (documents : List (List (List ℕ))) (rows : List Row) (payload : List ℕ) (new : Held) (more : List Row) : Type 0 where
  pub entry : Entry
  pub spelled : IsEntry entry
  pub is : payload ≡ entry_spelling entry
  pub taken : IsTakenEntry tells old documents rows entry new more

-- The payload spells an entry that breaks this rule first.
pub record IsBreach (tells : Bool) (old : Held) (documents : List (List (List ℕ))) (payload : List ℕ) (refusal : Refusal) : Type 0 where
  pub entry : Entry
  pub spelled : IsEntry entry
  pub is : payload ≡ entry_spelling entry
  pub breaks : BreaksRule tells old documents entry refusal

-- why the payload of the entry with this number was not taken
abbrev pub IsNotNext : Bool → Held → List (List (List ℕ)) → List ℕ → ℕ → StoreFault → Type 0
IsNotNext tells old documents payload entry (fault.BadEntry number place) = (number ≡ entry) × (entry_first_fault payload ≡ Some place)
IsNotNext tells old documents payload entry (fault.Illegal number refusal) = (number ≡ entry) × IsBreach tells old documents payload refusal
IsNotNext tells old documents payload entry fault.DiskFault = Unit {0}
IsNotNext tells old documents payload entry fault.Memory = Unit {0}
IsNotNext tells old documents payload entry other = ⊥

-- What contracts see of a store, and what every store keeps.
use Rattle.std.specs.Prelude.{◌⊎◌, ℕ, ◌+◌, ◌-◌, ◌^◌, ◌<◌, ◌≤◌, Bool, IsTrue, List, [], ◌∷◌, ◌++◌, map, length}
use Rattle.gate_journal.specs.Journal.{image}
use Rattle.entry_codec.specs.declared.entry.Entry.{Entry}
use Rattle.entry_codec.specs.Spelling.{entry_spelling}
use Rattle.archive_chain.specs.Held.{Held, Agrees, StandsFor}
use Rattle.archive_chain.specs.History.{Legal, LegalButImprint}
use Rattle.archive_store.specs.declared.item.Item.{Item}
use Rattle.archive_store.specs.Told.{entries_of, marks_of, is_closed}
use Rattle.archive_store.specs.Images.{Leaves}

-- The disk; the count of its faults when the store was opened; what it tells; the archive in memory.
pub record Telling (D : Type 0) : Type 0 where
  pub disk : D
  pub base : ℕ
  pub told : List Item
  pub archive : Held

-- What every store keeps. It tells fewer than 2^32 entries. Its archive agrees with them, and each has a spelling and breaks no rule but
-- Imprint after those before it; where the disk tells its bytes, the archive stands for them, and they are legal. The marks are at
-- most as many as the faults since it was opened, unless the count of faults is at its end. A crash leaves the entries or, once a step has
-- failed, these or one more.
pub record IsStore (tells : Bool) (images : List ℕ → Type 0) (faults base : ℕ) (told : List Item) (archive : Held) : Type 0 where
  pub few : length (entries_of told) < 2 ^ 32
  pub agrees : Agrees archive (entries_of told)
  pub but_imprint : LegalButImprint (entries_of told)
  pub stands : IsTrue tells → StandsFor archive (entries_of told)
  pub legal : IsTrue tells → Legal (entries_of told)
  pub marks : (base + marks_of told ≤ faults) ⊎ (2 ^ 64 - 1 ≤ faults)
  pub left : IsTrue tells → (c : List ℕ) → images c → Leaves (is_closed told) (entries_of told) c

-- how many bytes the journal would have with this entry more, its closed gate among them
abbrev pub size_after : List Item → Entry → ℕ
size_after told e = length (image (map entry_spelling (entries_of told ++ e ∷ []))) + 1

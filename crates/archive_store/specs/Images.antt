-- What the bytes of a disk, and a crash, say of a history.
use Rattle.std.specs.Prelude.{◌≡◌, ◌⊎◌, ℕ, Bool, IsTrue, List, [], ◌∷◌, ◌++◌, map}
use Rattle.gate_journal.specs.Journal.{Reads}
use Rattle.entry_codec.specs.declared.entry.Entry.{Entry}
use Rattle.entry_codec.specs.Spelling.{entry_spelling}
use Rattle.archive_chain.specs.History.{Legal}

-- the bytes are a journal of this history, which is legal
pub record ReadsHistory (b : List ℕ) (h : List Entry) : Type 0 where
  pub reads : Reads b (map entry_spelling h)
  pub legal : Legal h

-- they are that of no other
pub record ReadsOnlyHistory (b : List ℕ) (h : List Entry) : Type 0 where
  pub reads : ReadsHistory b h
  pub only : (k : List Entry) → ReadsHistory b k → k ≡ h

-- this history, or that with this entry more
abbrev pub ReadsBeforeOrAfter : List Entry → Entry → List ℕ → Type 0
ReadsBeforeOrAfter h e b = ReadsHistory b h ⊎ ReadsHistory b (h ++ e ∷ [])

-- What a crash leaves of a store that tells this history: it, or, once a step has failed, it or it with one entry more.
abbrev pub Leaves : Bool → List Entry → List ℕ → Type 0
Leaves closed h b = ReadsHistory b h ⊎ (IsTrue closed × ((e : Entry) × ReadsHistory b (h ++ e ∷ [])))

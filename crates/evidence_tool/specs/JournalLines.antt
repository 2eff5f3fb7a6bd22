-- The line that says why a journal is not opened: the number of its first bad entry, and what is wrong there.
use Rattle.std.specs.Prelude.{◌≡◌, ℕ, List, [], ◌∷◌, ◌++◌, codes, decimal}
use Rattle.hex.specs.Hex.{encode_lower}
use Rattle.session_text.specs.RefusalTexts.{IsRefusalText}
use Rattle.archive_store.specs.declared.fault.StoreFault.{StoreFault}
use Rattle.archive_store.specs.declared.fault.StoreFault.TheVariants.{BadLength, Damaged, BadEntry, Illegal}

-- a line on this entry
abbrev pub journal_line : ℕ → List ℕ → List ℕ
journal_line entry words = codes "journal " ++ decimal entry ++ 32 ∷ words ++ 10 ∷ []

-- The bytes are the line of a fault: the length behind an open gate; the digest that the frame keeps and its payload's, in hexadecimal;
-- the place in the payload from which on it is no entry; the rule that the entry breaks first. Other faults have none.
abbrev pub IsJournalLine : StoreFault → List ℕ → Type 0
IsJournalLine (BadLength entry length) line = line ≡ journal_line entry (codes "length " ++ decimal length)
IsJournalLine (Damaged entry kept found) line = line ≡ journal_line entry (codes "digest " ++ encode_lower kept ++ 32 ∷ encode_lower found)
IsJournalLine (BadEntry entry place) line = line ≡ journal_line entry (codes "entry " ++ decimal place)
IsJournalLine (Illegal entry rule) line = (text : List ℕ) × IsRefusalText rule text × (line ≡ journal_line entry (codes "rule " ++ text))
IsJournalLine other line = ⊥

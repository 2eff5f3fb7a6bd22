-- What a store tells: its entries, and a mark for each call that the disk failed, where it fell.
use Rattle.std.specs.Prelude.{◌≡◌, ◌⊎◌, ℕ, suc, Bool, true, false, List, [], ◌∷◌, ◌++◌, map, length, replicate}
use Rattle.entry_codec.specs.declared.entry.Entry.{Entry}
use Rattle.entry_codec.specs.declared.entry.Entry.TheVariants.{Deposit, Seal, RenewStamps, RenewTrees, SetPolicy}
use Rattle.archive_store.specs.declared.item.Item.{Item}
use Rattle.archive_store.specs.declared.item.Item.TheVariants as item

-- the entries, in order
abbrev pub entries_of : List Item → List Entry
entries_of [] = []
entries_of (item.Entry e ∷ items) = e ∷ entries_of items
entries_of (item.ReadFault ∷ items) = entries_of items
entries_of (item.StepFault ∷ items) = entries_of items

-- how many marks there are
abbrev pub marks_of : List Item → ℕ
marks_of [] = 0
marks_of (item.Entry e ∷ items) = marks_of items
marks_of (item.ReadFault ∷ items) = suc (marks_of items)
marks_of (item.StepFault ∷ items) = suc (marks_of items)

-- a step has failed, and no further one is taken
abbrev pub is_closed : List Item → Bool
is_closed [] = false
is_closed (item.Entry e ∷ items) = is_closed items
is_closed (item.ReadFault ∷ items) = is_closed items
is_closed (item.StepFault ∷ items) = true

-- the most marks of reads that are told between two entries
abbrev pub most_reads : ℕ
most_reads = 4294967294

-- the marks of reads behind the last entry, where so many stand before these items
abbrev pub reads_since : ℕ → List Item → ℕ
reads_since n [] = n
reads_since n (item.Entry e ∷ items) = reads_since 0 items
reads_since n (item.ReadFault ∷ items) = reads_since (suc n) items
reads_since n (item.StepFault ∷ items) = reads_since n items

-- One mark of a read more, or none where the most are told.
abbrev pub Marks : List Item → List Item → Type 0
Marks old new = (new ≡ old ++ item.ReadFault ∷ []) ⊎ ((new ≡ old) × (reads_since 0 old ≡ most_reads))

-- ---- over a disk that doesn't tell its bytes

-- as many zeros as the document has bytes
abbrev pub blank_document : List ℕ → List ℕ
blank_document d = replicate (length d) 0

-- a group of such documents
abbrev pub blank_group : List (List ℕ) → List (List ℕ)
blank_group g = map blank_document g

-- a deposit of such groups; another entry as it is
abbrev pub blank : Entry → Entry
blank (Deposit groups) = Deposit (map blank_group groups)
blank (Seal alg count token) = Seal alg count token
blank (RenewStamps alg cohorts token) = RenewStamps alg cohorts token
blank (RenewTrees alg cohorts token) = RenewTrees alg cohorts token
blank (SetPolicy text) = SetPolicy text

-- a group as it is told: with zeros for its documents where the disk doesn't tell its bytes
abbrev pub group_told : Bool → List (List ℕ) → List (List ℕ)
group_told true g = g
group_told false g = blank_group g

-- an entry as it is told
abbrev pub entry_told : Bool → Entry → Entry
entry_told true e = e
entry_told false e = blank e

-- this entry more is told
abbrev pub Adds : Bool → List Item → Entry → List Item → Type 0
Adds tells old e new = new ≡ old ++ item.Entry (entry_told tells e) ∷ []

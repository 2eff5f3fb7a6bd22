-- How a store keeps what it tells: of a document its place in the payload of its deposit.
use Rattle.std.specs.Prelude.{ℕ, Bool, true, false, List, [], ◌∷◌, ◌++◌, map, drop, replicate, Option, Some, None}
use Rattle.entry_codec.specs.declared.entry.Entry.{Entry}
use Rattle.entry_codec.specs.declared.entry.Entry.TheVariants.{Deposit}
use Rattle.entry_codec.specs.declared.places.Place.{Place}
use Rattle.entry_codec.specs.Places.{bytes_at, grouped}
use Rattle.archive_store.specs.declared.item.Item.{Item}
use Rattle.archive_store.specs.declared.item.Item.TheVariants as item
use Rattle.archive_store.specs.declared.row.Stored.{Stored}
use Rattle.archive_store.specs.declared.row.Stored.TheVariants.{OnDisk, Whole}
use Rattle.archive_store.specs.declared.row.Row.{Row}

-- the bytes at a place of a payload, or as many zeros where the disk doesn't tell them
abbrev pub document_at : Bool → List ℕ → Place → List ℕ
document_at true payload p = bytes_at payload p
document_at false payload p = replicate p.size 0

-- the entry that is kept so, where its payload is this one
abbrev pub entry_at : Bool → List ℕ → Stored → Entry
entry_at tells payload (OnDisk deposit) = Deposit (grouped deposit.counts (map (document_at tells payload) deposit.places))
entry_at tells payload (Whole e) = e.value

-- the first payload; where there is none, no bytes
abbrev pub first_payload : List (List ℕ) → List ℕ
first_payload [] = []
first_payload (p ∷ payloads) = p

-- the entries of the rows, where these are the payloads of the journal, with the marks of reads before each
abbrev pub told_rows : Bool → List Row → List (List ℕ) → List Item
told_rows tells [] payloads = []
told_rows tells (r ∷ rows) payloads =
    replicate r.marks item.ReadFault ++ item.Entry (entry_at tells (first_payload payloads) r.entry) ∷ told_rows tells rows (drop 1 payloads)

-- the mark of the step that failed, and those of the reads since
abbrev pub told_failed : Option ℕ → List Item
told_failed None = []
told_failed (Some n) = item.StepFault ∷ replicate n item.ReadFault

-- what a store tells: its rows, the reads that failed since, and the step that did
abbrev pub told_of : Bool → List Row → List (List ℕ) → ℕ → Option ℕ → List Item
told_of tells rows payloads here failed = told_rows tells rows payloads ++ replicate here item.ReadFault ++ told_failed failed

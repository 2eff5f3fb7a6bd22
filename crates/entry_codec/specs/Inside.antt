-- What private functions say of each other.
use Rattle.std.specs.Prelude.{◌≡◌, ℕ, ◌+◌, ◌*◌, ◌≤◌, List, [], ◌∷◌, ◌++◌, length, map, sum, None, Ok}
use Rattle.std.specs.List.{AllByRecursion}
use Rattle.object_groups.specs.Groups.{IsGroup, bytes_in, most_documents}
use Rattle.entry_codec.specs.declared.entry.Entry.{Entry}
use Rattle.entry_codec.specs.declared.fault.EntryFault.{EntryFault}
use Rattle.entry_codec.specs.declared.fault.EntryFault.TheVariants.{Bad, Memory}
use Rattle.entry_codec.specs.declared.kind.Kind.{Kind}
use Rattle.entry_codec.specs.declared.kind.Kind.TheVariants as kind
use Rattle.entry_codec.specs.declared.places.Place.{Place}
use Rattle.entry_codec.specs.Form.{Form, Unread, Reading, reads, nothing_more}
use Rattle.entry_codec.specs.Fault.{entry_form, documents_form, group_form}
use Rattle.entry_codec.specs.Places.{document_places}
pub use Rattle.entry_codec.specs.Places.{bytes_at, grouped}

-- a reading of what is left
abbrev pub read_at : {A : Type 0} → Form A → Unread → Reading A
read_at form unread = reads form unread.place unread.bytes

-- the place that a fault names
abbrev pub place_of : EntryFault → ℕ
place_of Memory = 0
place_of (Bad place) = place

-- the byte of a kind
abbrev pub kind_byte : Kind → ℕ
kind_byte kind.Deposit = 1
kind_byte kind.Seal = 2
kind_byte kind.RenewStamps = 3
kind_byte kind.RenewTrees = 4
kind_byte kind.SetPolicy = 5

-- an entry was read, and nothing stands behind it
pub record ReadsWhole (bytes : List ℕ) (e : Entry) : Type 0 where
  pub after : Unread
  pub is : reads entry_form 0 bytes ≡ Ok (e, after)
  pub none : nothing_more after ≡ None

-- ---- places

-- documents of at most so many bytes were read, their places stand behind the others, and so many bytes are left
pub record TakesDocuments (count room : ℕ) (before after : Unread) (places placed : List Place) (left : ℕ) : Type 0 where
  pub documents : List (List ℕ)
  pub read : read_at (documents_form count room) before ≡ Ok (documents, after)
  pub number : length documents ≡ count
  pub places_are : placed ≡ places ++ document_places before.place documents
  pub left_is : left + bytes_in documents ≡ room
  pub place_is : after.place ≡ before.place + 4 * length documents + bytes_in documents

-- a group of at most so many bytes was read
pub record TakesGroup (room : ℕ) (before after : Unread) (counts counted : List ℕ) (places placed : List Place) (left : ℕ) : Type 0 where
  pub group : List (List ℕ)
  pub read : read_at (group_form room) before ≡ Ok (group, after)
  pub few : length group ≤ most_documents
  pub counts_are : counted ≡ counts ++ length group ∷ []
  pub places_are : placed ≡ places ++ document_places (before.place + 4) group
  pub left_is : left + bytes_in group ≡ room
  pub place_is : after.place ≡ before.place + 4 + 4 * length group + bytes_in group

-- ---- groups at their places

-- the place lies within so many bytes
abbrev pub IsWithin : ℕ → Place → Type 0
IsWithin size p = p.from + p.size ≤ size

-- the groups whose documents stand at these places
abbrev pub groups_at : List ℕ → List ℕ → List Place → List (List (List ℕ))
groups_at payload counts places = grouped counts (map (bytes_at payload) places)

-- there are as many places as the groups want, within the payload, and they give groups
pub record FitIn (payload counts : List ℕ) (places : List Place) : Type 0 where
  pub enough : sum counts ≤ length places
  pub within : AllByRecursion (IsWithin (length payload)) places
  pub groups : AllByRecursion IsGroup (groups_at payload counts places)

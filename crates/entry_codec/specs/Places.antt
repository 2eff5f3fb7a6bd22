-- Where the documents of a deposit lie in its payload.
use Rattle.std.specs.Prelude.{◌≡◌, ℕ, ◌+◌, ◌≤◌, List, [], ◌∷◌, ◌++◌, length, map, take, drop, sum_by, Option, Some, None}
use Rattle.object_groups.specs.Groups.{bytes_in}
use Rattle.entry_codec.specs.declared.entry.Entry.TheVariants.{Deposit}
use Rattle.entry_codec.specs.declared.places.Place.{Place}
use Rattle.entry_codec.specs.declared.places.DepositPlaces.{DepositPlaces}
use Rattle.entry_codec.specs.Spelling.{group_spelling, entry_spelling, IsDeposit}

-- documents, where the length of the first stands at this place
abbrev pub document_places : ℕ → List (List ℕ) → List Place
document_places at [] = []
document_places at (d ∷ documents) = record { from = at + 4; size = length d } ∷ document_places (at + 4 + length d) documents

-- the documents of groups, where the number of the first group's stands at this place
abbrev pub group_places : ℕ → List (List (List ℕ)) → List Place
group_places at [] = []
group_places at (g ∷ groups) = document_places (at + 4) g ++ group_places (at + length (group_spelling g)) groups

-- the bytes at a place
abbrev pub bytes_at : List ℕ → Place → List ℕ
bytes_at payload p = take p.size (drop p.from payload)

-- documents, cut into groups of so many
abbrev pub grouped : List ℕ → List (List ℕ) → List (List (List ℕ))
grouped [] documents = []
grouped (n ∷ counts) documents = take n documents ∷ grouped counts (drop n documents)

-- These groups lie so in the payload of their deposit: behind its kind and the number of the groups.
pub record LieAt (groups : List (List (List ℕ))) (p : DepositPlaces) : Type 0 where
  pub counts : p.counts ≡ map length groups
  pub places : p.places ≡ group_places 5 groups
  pub bytes : p.bytes ≡ sum_by bytes_in groups

-- the bytes are a deposit of groups that lie so
pub record IsDepositOf (payload : List ℕ) (p : DepositPlaces) : Type 0 where
  pub groups : List (List (List ℕ))
  pub valid : IsDeposit groups
  pub is : payload ≡ entry_spelling (Deposit groups)
  pub lie : LieAt groups p

-- the bytes begin with another kind of entry than a deposit
pub record IsOtherKind (payload : List ℕ) : Type 0 where
  pub kind : ℕ
  pub rest : List ℕ
  pub is : payload ≡ kind ∷ rest
  pub above : 2 ≤ kind
  pub below : kind ≤ 5

-- what the reader of places answers
abbrev pub ArePlaces : List ℕ → Option DepositPlaces → Type 0
ArePlaces payload (Some p) = IsDepositOf payload p
ArePlaces payload None = IsOtherKind payload

-- What a store keeps of its entries: rows, where each group is found, and an archive of them.
use Rattle.std.specs.Prelude.{◌≡◌, ℕ, zero, suc, ◌+◌, ◌<◌, ◌≤◌, ⊤, Bool, IsTrue, List, [], ◌∷◌, ◌++◌, map, length, take, drop, sum, sum_by, replicate, slice_get, slice_index, Option, Some, None}
use Rattle.std.specs.List.{AllByRecursion}
use Rattle.object_groups.specs.Groups.{IsGroup}
use Rattle.entry_codec.specs.declared.entry.Entry.{Entry}
use Rattle.entry_codec.specs.declared.entry.Entry.TheVariants.{Deposit, Seal, RenewStamps, RenewTrees, SetPolicy}
use Rattle.entry_codec.specs.declared.places.Place.{Place}
use Rattle.entry_codec.specs.declared.places.DepositPlaces.{DepositPlaces}
use Rattle.entry_codec.specs.Spelling.{entry_spelling}
use Rattle.entry_codec.specs.Places.{LieAt, grouped}
use Rattle.entry_codec.specs.Inside.{IsWithin}
use Rattle.archive_chain.specs.Held.{Held, Agrees, StandsFor}
use Rattle.archive_chain.specs.History.{groups_in, Legal, LegalButImprint}
use Rattle.archive_store.specs.declared.row.Stored.{Stored}
use Rattle.archive_store.specs.declared.row.Stored.TheVariants.{OnDisk, Whole}
use Rattle.archive_store.specs.declared.row.Row.{Row}
use Rattle.archive_store.specs.declared.row.Home.{Home}
use Rattle.archive_store.specs.Rows.{entry_at, first_payload}

-- this is kept of the entry
abbrev pub IsStored : Entry → Stored → Type 0
IsStored (Deposit groups) (OnDisk deposit) = LieAt groups deposit
IsStored (Deposit groups) (Whole e) = ⊥
IsStored (Seal alg count token) (Whole e) = e.value ≡ Seal alg count token
IsStored (Seal alg count token) (OnDisk deposit) = ⊥
IsStored (RenewStamps alg cohorts token) (Whole e) = e.value ≡ RenewStamps alg cohorts token
IsStored (RenewStamps alg cohorts token) (OnDisk deposit) = ⊥
IsStored (RenewTrees alg cohorts token) (Whole e) = e.value ≡ RenewTrees alg cohorts token
IsStored (RenewTrees alg cohorts token) (OnDisk deposit) = ⊥
IsStored (SetPolicy text) (Whole e) = e.value ≡ SetPolicy text
IsStored (SetPolicy text) (OnDisk deposit) = ⊥

-- ---- the entries of all rows

-- the entries of the rows, where these are the payloads of the journal
abbrev pub entries_at : Bool → List Row → List (List ℕ) → List Entry
entries_at tells [] payloads = []
entries_at tells (r ∷ rows) payloads = entry_at tells (first_payload payloads) r.entry ∷ entries_at tells rows (drop 1 payloads)

-- ---- where each group is found

-- how many groups an entry has
abbrev pub group_count : Stored → ℕ
group_count (OnDisk deposit) = length deposit.counts
group_count (Whole e) = 0

-- so many groups of an entry
abbrev pub homes_of : ℕ → ℕ → List Home
homes_of entry zero = []
homes_of entry (suc n) = homes_of entry n ++ record { entry = entry; number = n } ∷ []

-- the groups of all rows in order, where the first row has this number
abbrev pub homes_from : ℕ → List Row → List Home
homes_from entry [] = []
homes_from entry (r ∷ rows) = homes_of entry (group_count r.entry) ++ homes_from (entry + 1) rows

-- the places of the documents of the group with this number
abbrev pub places_in : Stored → ℕ → List Place
places_in (OnDisk deposit) n = take (slice_index deposit.counts n) (drop (sum (take n deposit.counts)) deposit.places)
places_in (Whole e) n = []

-- the same in a row, where there is one
abbrev pub places_of : Option Row → ℕ → List Place
places_of None n = []
places_of (Some r) n = places_in r.entry n

-- the places of the documents of the group that is found there
abbrev pub places_at : List Row → Home → List Place
places_at rows home = places_of (slice_get rows home.entry) home.number

-- there is a group with this number, and there are places for its documents
abbrev pub HasPlaces : Stored → ℕ → Type 0
HasPlaces (OnDisk deposit) n = (n < length deposit.counts) × (sum deposit.counts ≤ length deposit.places) × (length deposit.counts ≤ 64)
HasPlaces (Whole e) n = ⊤

-- the same of the row there
pub record HasHome (rows : List Row) (home : Home) : Type 0 where
  pub row : Row
  pub there : slice_get rows home.entry ≡ Some row
  pub places : HasPlaces row.entry home.number

-- ---- what can be read

-- There are as many places as the groups want, within a payload of this size, and what stands there are groups.
pub record IsReadable (size : ℕ) (deposit : DepositPlaces) : Type 0 where
  pub few : length deposit.counts ≤ 64
  pub enough : sum deposit.counts ≤ length deposit.places
  pub within : AllByRecursion (IsWithin size) deposit.places
  pub groups : AllByRecursion IsGroup (grouped deposit.counts (map (λ (p : Place). replicate p.size 0) deposit.places))

-- the same of what is kept of any entry; another kind than a deposit has no groups
abbrev pub CanBeRead : ℕ → Stored → Type 0
CanBeRead size (OnDisk deposit) = IsReadable size deposit
CanBeRead size (Whole e) = groups_in e.value ≡ []

-- the same of each row, where these are the sizes of the payloads; there may be payloads behind them
abbrev pub AreReadable : List ℕ → List Row → Type 0
AreReadable [] [] = ⊤
AreReadable (n ∷ sizes) [] = ⊤
AreReadable [] (r ∷ rows) = ⊥
AreReadable (n ∷ sizes) (r ∷ rows) = CanBeRead n r.entry × AreReadable sizes rows

-- ---- rows and an archive

-- The rows, and an archive, of the entries that these payloads spell.
pub record AreRows (tells : Bool) (lengths : List ℕ) (payloads : List (List ℕ)) (rows : List Row) (archive : Held) : Type 0 where
  pub sizes : lengths ≡ map (λ e. length (entry_spelling e)) (entries_at tells rows payloads)
  pub spelled : IsTrue tells → payloads ≡ map entry_spelling (entries_at tells rows payloads)
  pub readable : AreReadable lengths rows
  pub agrees : Agrees archive (entries_at tells rows payloads)
  pub but_imprint : LegalButImprint (entries_at tells rows payloads)
  pub stands : IsTrue tells → StandsFor archive (entries_at tells rows payloads)
  pub legal : IsTrue tells → Legal (entries_at tells rows payloads)

-- how many reads failed before entries
abbrev pub row_marks : List Row → ℕ
row_marks rows = sum_by (λ (r : Row). r.marks) rows

-- What an entry adds to an archive, and where.
use Rattle.std.specs.Prelude.{◌≡◌, ⊤, ℕ, ◌+◌, ◌<◌, ◌^◌, slice_get, List, [], ◌∷◌, ◌++◌, length, map, true, Some, None, if◌then◌else◌}
use Rattle.archive_chain.specs.Kept.{cohort_of, has_name, cohorts_in, ids_in}
use Rattle.archive_chain.specs.Rules.{first_full}
use Rattle.archive_chain.specs.declared.time_stamp.TimeStamp.{TimeStamp}
use Rattle.archive_chain.specs.declared.row.Row.{Row}
use Rattle.archive_chain.specs.declared.row.Longer.{Longer}
use Rattle.archive_chain.specs.Held.{Plain, Held}
use Rattle.archive_chain.specs.InsideTable.{ids_seen, bones_of}
use Rattle.archive_chain.specs.InsideIndex.{Bones, taken_bones, renamed}
use Rattle.archive_chain.specs.InsideListed.{IsListed}
use Rattle.archive_chain.specs.InsidePeak.{IsPeak}

-- the chain of this cohort stands at this place
pub record IsAt (table : List Plain) (place name : ℕ) : Type 0 where
  pub row : Plain
  pub there : slice_get table place ≡ Some row
  pub entry : row.stamp ≡ name
  pub open_ : row.next ≡ None

-- this cohort has a group, and its chain stands at this place
pub record IsRowOf (h : Held) (cohort place : ℕ) : Type 0 where
  pub named : has_name (cohorts_in h.kept.sealed) cohort ≡ true
  pub at : IsAt h.room.table place cohort

abbrev pub AreAt : List Plain → List ℕ → List ℕ → Type 0
AreAt table [] [] = ⊤
AreAt table [] (name ∷ names) = ⊥
AreAt table (place ∷ places) [] = ⊥
AreAt table (place ∷ places) (name ∷ names) = IsAt table place name × AreAt table places names

-- the further time-stamps of this cohort's chain, and one of this entry, for the leaf at this place
pub record IsAdded (table : List Plain) (entry place : ℕ) (l : Longer) (name : ℕ) : Type 0 where
  pub at : IsAt table l.row name
  pub later : l.later.items ≡ at.row.later ++ record { stamp = entry; place = place } ∷ []
  pub most : l.most ≡ at.row.most + 1

abbrev pub AreAdded : List Plain → ℕ → ℕ → List Longer → List ℕ → Type 0
AreAdded table entry place [] [] = ⊤
AreAdded table entry place [] (name ∷ names) = ⊥
AreAdded table entry place (l ∷ longer) [] = ⊥
AreAdded table entry place (l ∷ longer) (name ∷ names) = IsAdded table entry place l name × AreAdded table entry (place + 1) longer names

-- a row without its time-stamps
abbrev pub bare : Plain → Bones
bare p = record { stamp = p.stamp; members = p.members; next = p.next }

-- of these items, one for each name, those whose names are none of the cohorts
abbrev pub staying : List ℕ → List ℕ → List ℕ → List ℕ
staying cohorts [] items = []
staying cohorts (name ∷ names) [] = []
staying cohorts (name ∷ names) (item ∷ items) = if has_name cohorts name then staying cohorts names items else item ∷ staying cohorts names items

pub record TreesFit (h : Held) (stamp : TimeStamp) (row : Row) (rows_of names live cohorts : List ℕ) : Type 0 where
  pub entry : row.stamp ≡ h.kept.entries
  pub alone : row.later.items ≡ []
  pub open_ : row.next ≡ None
  pub members : ids_seen row.members ≡ ids_in cohorts 0 h.kept.sealed
  pub leaves : length stamp.tree.leaves ≡ length (ids_in cohorts 0 h.kept.sealed)
  pub listed : IsListed (map (taken_bones cohorts (length h.room.table)) (map bare h.room.table) ++ bones_of row ∷ [])
      (map (renamed cohorts h.kept.entries) (map cohort_of h.kept.sealed)) names live
  pub places : AreAt h.room.table rows_of cohorts
  pub full : first_full cohorts 0 h.kept.sealed ≡ None
  pub most : ℕ
  pub most_is : row.most ≡ most + 1
  pub peak : IsPeak (λ c. has_name cohorts c ≡ true) h.kept.sealed most row.least

pub record StampsFit (h : Held) (stamp : TimeStamp) (longer : List Longer) (cohorts : List ℕ) : Type 0 where
  pub leaves : length stamp.tree.leaves ≡ length cohorts
  pub few : length cohorts < 2 ^ 32
  pub added : AreAdded h.room.table h.kept.entries 0 longer cohorts
  pub full : first_full cohorts 0 h.kept.sealed ≡ None

-- How an archive keeps its history.
use Rattle.std.specs.Prelude.{◌≡◌, ℕ, zero, suc, ◌+◌, ◌<◌, ◌≤◌, ◌^◌, ⊤, List, [], ◌∷◌, length, map, Some}
use Rattle.std.specs.List.{AllByRecursion}
use Rattle.archive_chain.specs.Kept.{cohort_of}
use Rattle.archive_chain.specs.InsideRows.{AreRows}
pub use Rattle.archive_chain.specs.Table.{Stamps, alg_in, token_in, leaves_in, stamp_at, ids_seen, later_seen, plain_of, chain_of, row_seen, rows_seen, sealed_in}
use Rattle.archive_chain.specs.Table.{Row as Chain}
use Rattle.archive_chain.specs.declared.time_stamp.TimeStamp.{TimeStamp}
use Rattle.archive_chain.specs.declared.row.Later.{Later}
use Rattle.archive_chain.specs.declared.row.Longer.{Longer}
use Rattle.archive_chain.specs.declared.row.Row.{Row}
use Rattle.archive_chain.specs.InsideIndex.{Bones, IsIndexed}
use Rattle.archive_chain.specs.InsidePeak.{IsTop}

-- a row without its time-stamps
abbrev pub bones_of : Row → Bones
bones_of r = record { stamp = r.stamp; members = ids_seen r.members; next = r.next }

-- ---- changes of rows

abbrev pub change : {A : Type 0} → (A → A) → ℕ → List A → List A
change f p [] = []
change f zero (x ∷ xs) = f x ∷ xs
change f (suc p) (x ∷ xs) = x ∷ change f p xs

abbrev pub leads_to : ℕ → Row → Row
leads_to n r = record { stamp = r.stamp; members = r.members; later = r.later; next = Some n; most = r.most; least = r.least }

-- these rows lead to that one
abbrev pub led : ℕ → List ℕ → List Row → List Row
led n [] rows = rows
led n (p ∷ places) rows = change (leads_to n) p (led n places rows)

abbrev pub with_later : Longer → Row → Row
with_later l r = record { stamp = r.stamp; members = r.members; later = l.later; next = r.next; most = l.most; least = r.least }

abbrev pub lengthened : List Longer → List Row → List Row
lengthened [] rows = rows
lengthened (l ∷ longer) rows = change (with_later l) l.row (lengthened longer rows)

-- the rows stand in the order of their entries
abbrev pub RowsAscend : List Chain → Type 0
RowsAscend [] = ⊤
RowsAscend (row ∷ rows) = AllByRecursion (λ (other : Chain). row.entry < other.entry) rows × RowsAscend rows

-- strictly ascending
abbrev pub Rises : List ℕ → Type 0
Rises [] = ⊤
Rises (x ∷ xs) = AllByRecursion (λ y. x < y) xs × Rises xs

-- the spelling of a time-stamp made from it is short
pub record IsShort (t : TimeStamp) : Type 0 where
  pub few_leaves : length t.tree.leaves < 2 ^ 32
  pub short_token : length t.token ≤ 65536

-- the tree of the entry has this leaf
pub record IsTreedLater (stamps : Stamps) (l : Later) : Type 0 where
  pub stamp : TimeStamp
  pub within : l.stamp < length stamps
  pub there : stamp_at stamps l.stamp ≡ Some stamp
  pub alg : stamp.tree.alg ≡ stamp.alg
  pub place : l.place < length stamp.tree.leaves
  pub short : IsShort stamp

-- the tree of the entry has a leaf for each group
pub record IsTreed (stamps : Stamps) (row : Row) : Type 0 where
  pub stamp : TimeStamp
  pub within : row.stamp < length stamps
  pub there : stamp_at stamps row.stamp ≡ Some stamp
  pub alg : stamp.tree.alg ≡ stamp.alg
  pub short : IsShort stamp
  pub leaves : length stamp.tree.leaves ≡ length (ids_seen row.members)
  pub few : length (ids_seen row.members) ≤ 65536
  pub rises : Rises (ids_seen row.members)
  pub later : AllByRecursion (IsTreedLater stamps) row.later.items

-- each row's time-stamps are those of entries
pub record IsKnown (entries : ℕ) (row : Row) : Type 0 where
  pub stamp : row.stamp < entries
  pub later : AllByRecursion (λ (l : Later). l.stamp < entries) row.later.items

pub record IsTable (stamps : Stamps) (rows : List Row) (firsts : List ℕ) (pending : ℕ) : Type 0 where
  pub few : length firsts + pending ≤ 65536
  pub are_rows : AreRows 0 (length rows) (rows_seen stamps rows)
  pub starts : AllByRecursion (λ first. first < length rows) firsts
  pub short : AllByRecursion (λ covers. length covers ≤ 200) (sealed_in stamps rows firsts)
  pub known : AllByRecursion (IsKnown (length stamps)) rows
  pub no_more : length rows ≤ length stamps
  pub ascend : RowsAscend (rows_seen stamps rows)
  pub indexed : IsIndexed (map bones_of rows) firsts (map cohort_of (sealed_in stamps rows firsts)) (length stamps)
  pub treed : AllByRecursion (IsTreed stamps) rows
  pub peaks : AllByRecursion (IsTop (sealed_in stamps rows firsts)) (rows_seen stamps rows)

-- within the limits of all deposits together
pub record HasLimits (documents bytes : ℕ) : Type 0 where
  pub few : documents ≤ 1048576
  pub short : bytes ≤ 268435456

-- so many rows, and so many groups, may be pushed
pub record HasRoom (stamps_len stamps_cap rows_len rows_cap firsts_len firsts_cap spare_stamps spare_groups : ℕ) : Type 0 where
  pub stamps : stamps_len + spare_stamps ≤ stamps_cap
  pub rows : rows_len + spare_stamps ≤ rows_cap
  pub groups : firsts_len + spare_groups ≤ firsts_cap

-- so many cohorts too
pub record HasNamesRoom (names_len names_cap live_len live_cap spare_stamps : ℕ) : Type 0 where
  pub names : names_len + spare_stamps ≤ names_cap
  pub live : live_len + spare_stamps ≤ live_cap

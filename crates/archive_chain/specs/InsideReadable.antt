-- What the sequence of a group is read from.
use Rattle.std.specs.Prelude.{◌≡◌, ℕ, ◌<◌, ◌≤◌, List, [], ◌∷◌, length, true, slice_get, Some, None}
use Rattle.std.specs.List.{AllByRecursion}
use Rattle.evidence_syntax.specs.Stamps.{Stamp}
use Rattle.hash_tree.specs.Tree.{tree_path}
use Rattle.tree_renewal.specs.Lists.{lists_of}
use Rattle.archive_chain.specs.Sequence.{Trees, name_of, stamp_of, with_stamp}
use Rattle.archive_chain.specs.Kept.{Cover, has_name}
use Rattle.evidence_syntax.specs.DocumentValue.{values_after}
use Rattle.archive_chain.specs.InsideRows.{AreRows, walk}
use Rattle.archive_chain.specs.declared.time_stamp.TimeStamp.{TimeStamp}
use Rattle.archive_chain.specs.declared.row.Row.{Row}
pub use Rattle.archive_chain.specs.InsideTable.{Rises, IsTreedLater, IsTreed}
use Rattle.archive_chain.specs.InsideTable.{Stamps, ids_seen, rows_seen}

-- the group stands in the row where it begins, and in each that took over
pub record AreReadable (stamps : Stamps) (rows : List Row) (id start : ℕ) : Type 0 where
  pub are_rows : AreRows 0 (length rows) (rows_seen stamps rows)
  pub treed : AllByRecursion (IsTreed stamps) rows
  pub starts : start < length rows
  pub first : (row : Row) → slice_get rows start ≡ Some row → has_name (ids_seen row.members) id ≡ true
  pub nexts : (p w : ℕ) (row after : Row) → slice_get rows p ≡ Some row → row.next ≡ Some w → slice_get rows w ≡ Some after
      → has_name (ids_seen row.members) id ≡ true → has_name (ids_seen after.members) id ≡ true
  pub few : length (walk id 0 (Some start) (rows_seen stamps rows)) ≤ 200

-- the archive time-stamp of a leaf
abbrev pub stamp_made : TimeStamp → List (List ℕ) → ℕ → Stamp
stamp_made t values place = record { algorithm = Some (name_of t.alg); attributes = None; lists = lists_of values (tree_path t.tree.alg t.tree.leaves place); token = t.token }

-- a chain with further time-stamps
abbrev pub further_all : Trees → List Stamp → List Cover → List Stamp
further_all trees chain [] = chain
further_all trees chain (c ∷ covers) = further_all trees (with_stamp trees c chain) covers

abbrev pub chain_made : Trees → List (List ℕ) → List (List Stamp) → Cover → List Cover → List Stamp
chain_made trees documents older first later = further_all trees (stamp_of trees first (values_after first.alg older documents) ∷ []) later

-- An entry that may be added to an archive.
use Rattle.std.specs.Prelude.{◌≡◌, ◌+◌, ◌^◌, ℕ, ◌<◌, ◌≤◌, List, [], length, None, vec_len, vec_capacity}
use Rattle.std.specs.List.{range_with_len}
use Rattle.algorithm_policy.specs.Content.{first_dropped}
use Rattle.algorithm_policy.specs.Text.{PolicyText}
use Rattle.entry_codec.specs.declared.entry.Entry.{Entry}
use Rattle.entry_codec.specs.declared.entry.Entry.TheVariants.{Deposit, Seal, RenewStamps, RenewTrees, SetPolicy}
use Rattle.archive_chain.specs.declared.time_stamp.TimeStamp.{TimeStamp}
use Rattle.archive_chain.specs.declared.row.Row.{Row}
use Rattle.archive_chain.specs.declared.ready.Piece.{Piece}
use Rattle.archive_chain.specs.declared.ready.Piece.TheVariants.{Counted, Sealed, Renewed, Stamped, Governed}
pub use Rattle.archive_chain.specs.Pieces.{leaves_in_piece}
use Rattle.archive_chain.specs.Kept.{groups_of}
use Rattle.archive_chain.specs.Rules.{most_groups, most_documents, most_bytes}
use Rattle.archive_chain.specs.Held.{Held, IsCounted}
use Rattle.archive_chain.specs.InsideTable.{ids_seen}
use Rattle.archive_chain.specs.InsideSaid.{IsSaid}
use Rattle.archive_chain.specs.InsidePieces.{TreesFit, StampsFit}

-- there is room for one entry more
pub record HasSpare (h : Held) : Type 0 where
  pub few : h.kept.entries < 2 ^ 32
  pub stamps : 0 < h.room.stamps

-- there is room for one entry more, and for so many groups that it seals
pub record HasRoomFor (h : Held) (groups : ℕ) : Type 0 where
  pub stamps : 0 < h.room.stamps
  pub groups_more : groups ≤ h.room.groups

-- all but the room that is left is the same
pub record KeepsTable (old new : Held) : Type 0 where
  pub kept : new.kept ≡ old.kept
  pub trees : new.trees ≡ old.trees
  pub policy : new.policy ≡ old.policy
  pub table : new.room.table ≡ old.room.table
  pub firsts : new.room.firsts ≡ old.room.firsts

-- the time-stamp is over a tree of its hash, and says under the policy what is kept of it
pub record IsStamped (h : Held) (stamp : TimeStamp) : Type 0 where
  pub tree : stamp.tree.alg ≡ stamp.alg
  pub said : IsSaid h.policy stamp

-- a Deposit stays within the limits
pub record DepositFit (h : Held) (groups documents bytes : ℕ) : Type 0 where
  pub few_groups : groups_of h.kept + groups ≤ most_groups
  pub few_documents : h.kept.documents + documents ≤ most_documents
  pub few_bytes : h.kept.bytes + bytes ≤ most_bytes

-- a Seal has a new row of the first pending groups
pub record SealFit (h : Held) (stamp : TimeStamp) (row : Row) (count : ℕ) : Type 0 where
  pub some : 0 < count
  pub pending : count ≤ h.kept.pending
  pub groups : count ≤ h.room.groups
  pub entry : row.stamp ≡ h.kept.entries
  pub members : ids_seen row.members ≡ range_with_len (length h.kept.sealed) count
  pub alone : row.later.items ≡ []
  pub open_ : row.next ≡ None
  pub leaves : length stamp.tree.leaves ≡ count
  pub most : row.most ≡ 1
  pub least : row.least ≡ length h.kept.sealed

-- there is room for a cohort more in these lists
pub record HasNames (h : Held) (names_len names_cap live_len live_cap : ℕ) : Type 0 where
  pub names : names_len + h.room.stamps ≤ names_cap + 1
  pub live : live_len + h.room.stamps ≤ live_cap + 1

-- What an entry adds is this piece, and the archive has room for it.
abbrev pub FitsSo : Held → Entry → Piece → Type 0
FitsSo h e (Counted counts) =
    DepositFit h counts.groups counts.documents counts.bytes
    × ((groups : List (List (List ℕ))) × (e ≡ Deposit groups) × IsCounted groups counts.groups counts.documents counts.bytes)
FitsSo h e (Sealed stamp row count) =
    IsStamped h stamp.value × SealFit h stamp.value row count × (e ≡ Seal stamp.value.alg count stamp.value.token)
FitsSo h e (Renewed stamp row places names live) =
    IsStamped h stamp.value × HasNames h (vec_len names) (vec_capacity names) (vec_len live) (vec_capacity live)
    × ((cohorts : List ℕ) × (e ≡ RenewTrees stamp.value.alg cohorts stamp.value.token) × TreesFit h stamp.value row places.items names.items live.items cohorts)
FitsSo h e (Stamped stamp longer) =
    IsStamped h stamp.value × ((cohorts : List ℕ) × (e ≡ RenewStamps stamp.value.alg cohorts stamp.value.token) × StampsFit h stamp.value longer.items cohorts)
FitsSo h e (Governed policy) = (first_dropped h.policy policy ≡ None) × ((text : List ℕ) × (e ≡ SetPolicy text) × PolicyText text policy)

abbrev pub Fits : Held → Entry → Piece → Type 0
Fits h e piece = HasSpare h × FitsSo h e piece

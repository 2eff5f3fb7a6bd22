-- How what an entry adds is made.
use Rattle.std.specs.Prelude.{◌≡◌, ℕ, ◌+◌, List, [], ◌∷◌, ◌++◌, length, map, true, None, vec_len, vec_capacity}
use Rattle.hash_kit.specs.declared.algorithm.HashAlg.{HashAlg}
use Rattle.hash_tree.specs.Tree.{tree_root}
use Rattle.hash_tree.specs.Levels.{Covered}
use Rattle.token_check.specs.declared.token.CheckedStamp.{CheckedStamp}
use Rattle.algorithm_policy.specs.Content.{Content}
use Rattle.entry_codec.specs.declared.entry.Entry.{Entry}
use Rattle.entry_codec.specs.declared.entry.Entry.TheVariants.{Seal}
use Rattle.archive_chain.specs.declared.time_stamp.TimeStamp.{TimeStamp}
use Rattle.archive_chain.specs.declared.row.Members.{Members}
use Rattle.archive_chain.specs.declared.row.Row.{Row}
use Rattle.archive_chain.specs.declared.peak.Peak.{Peak}
use Rattle.archive_chain.specs.declared.ready.Piece.{Piece}
use Rattle.archive_chain.specs.declared.joining.Register.{Register}
use Rattle.archive_chain.specs.declared.joining.Joined.{Joined}
use Rattle.archive_chain.specs.Kept.{cohort_of, has_name, ids_in}
use Rattle.archive_chain.specs.Rules.{Stamps, LaterKeepsBut}
use Rattle.archive_chain.specs.Held.{Held}
use Rattle.archive_chain.specs.InsideSaid.{IsSaid}
use Rattle.archive_chain.specs.InsideTable.{ids_seen}
use Rattle.archive_chain.specs.InsideIndex.{Bones, taken_bones, renamed}
use Rattle.archive_chain.specs.InsideListed.{IsListed}
use Rattle.archive_chain.specs.InsidePeak.{IsPeak}
use Rattle.archive_chain.specs.InsidePieces.{AreAt, bare}
use Rattle.archive_chain.specs.InsideReady.{leaves_in_piece, HasNames, FitsSo}

-- a time-stamp of this hash by this token, over a tree of these leaves, with what the token says
pub record IsStampOf (policy : Content) (hash : HashAlg) (bytes : List ℕ) (leaves : List (List ℕ)) (t : TimeStamp) : Type 0 where
  pub alg_is : t.alg ≡ hash
  pub token_is : t.token ≡ bytes
  pub tree_alg : t.tree.alg ≡ hash
  pub tree_leaves : t.tree.leaves ≡ leaves
  pub said : IsSaid policy t

-- the row of a chain of these groups that the next entry begins
pub record IsNextRow (h : Held) (groups : Members) (peak : Peak) (row : Row) : Type 0 where
  pub entry : row.stamp ≡ h.kept.entries
  pub members_are : row.members ≡ groups
  pub alone : row.later.items ≡ []
  pub open_ : row.next ≡ None
  pub most_is : row.most ≡ peak.most
  pub least_is : row.least ≡ peak.least

-- The entry adds this and has these leaves, and it keeps the rules of its token or of its policy.
pub record IsMade (h : Held) (e : Entry) (leaves : List (List ℕ)) (piece : Piece) : Type 0 where
  pub fits : FitsSo h e piece
  pub leaves_are : leaves_in_piece piece ≡ leaves
  pub keeps : LaterKeepsBut (λ says alg. Stamps says alg (tree_root alg leaves)) h.kept h.policy e

-- how many groups it seals
abbrev pub sealed_by_entry : Entry → ℕ
sealed_by_entry (Seal hash count token) = count
sealed_by_entry e = 0

-- its token is the one that says this
pub record IsKeptOf (hash : HashAlg) (says : CheckedStamp) (made_over : Covered) (t : TimeStamp) : Type 0 where
  pub alg_is : t.alg ≡ hash
  pub token_is : t.token ≡ says.bytes.now
  pub time_is : t.time ≡ says.time
  pub sid_is : t.sid ≡ says.sid.now
  pub tree_is : t.tree ≡ made_over

-- the cohorts after the next entry, which makes these cohorts one, with room for those that may come
pub record IsRegister (h : Held) (cohorts : List ℕ) (r : Register) : Type 0 where
  pub listed : (new : Bones) → new.stamp ≡ h.kept.entries → new.next ≡ None
      → IsListed (map (taken_bones cohorts (length h.room.table)) (map bare h.room.table) ++ new ∷ []) (map (renamed cohorts h.kept.entries) (map cohort_of h.kept.sealed)) r.names.items r.live.items
  pub room : HasNames h (vec_len r.names) (vec_capacity r.names) (vec_len r.live) (vec_capacity r.live)

-- the chain that the next entry begins for these cohorts, the rows that it takes over from, and the cohorts after it
pub record IsJoined (h : Held) (cohorts : List ℕ) (j : Joined) : Type 0 where
  pub entry : j.row.stamp ≡ h.kept.entries
  pub alone : j.row.later.items ≡ []
  pub open_ : j.row.next ≡ None
  pub members : ids_seen j.row.members ≡ ids_in cohorts 0 h.kept.sealed
  pub places_are : AreAt h.room.table j.places.items cohorts
  pub most : ℕ
  pub most_is : j.row.most ≡ most + 1
  pub peak : IsPeak (λ c. has_name cohorts c ≡ true) h.kept.sealed most j.row.least
  pub register_is : IsRegister h cohorts j.register

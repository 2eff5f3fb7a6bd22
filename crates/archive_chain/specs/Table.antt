-- How the rows of an archive say which time-stamps cover each group: one row a chain.
use Rattle.std.specs.Prelude.{ℕ, ◌+◌, ◌==◌, true, false, slice_index_or, List, [], ◌∷◌, ◌++◌, map, Option, Some, None, if◌then◌else◌}
use Rattle.std.specs.List.{range_with_len}
use Rattle.hash_kit.specs.declared.algorithm.HashAlg.{HashAlg}
use Rattle.hash_kit.specs.declared.algorithm.HashAlg.TheVariants.{Sha256}
use Rattle.archive_chain.specs.Kept.{Cover, place_of}
use Rattle.archive_chain.specs.Steps.{cover_at}
use Rattle.archive_chain.specs.Held.{Plain}
use Rattle.archive_chain.specs.declared.time_stamp.TimeStamp.{TimeStamp}
use Rattle.archive_chain.specs.declared.row.Later.{Later}
use Rattle.archive_chain.specs.declared.row.Members.{Members}
use Rattle.archive_chain.specs.declared.row.Members.TheVariants.{Run, Listed}
use Rattle.archive_chain.specs.declared.row.Row.{Row as Stored}

-- the entry that began the chain, with its hash and token; the groups that it was begun for, in order; the time-stamps
-- that came later; the row of the chain that took over; the most time-stamps of one of its groups, and the first group
-- that has as many
pub record Row : Type 0 where
  pub entry : ℕ
  pub alg : HashAlg
  pub token : List ℕ
  pub members : List ℕ
  pub later : List Cover
  pub next : Option ℕ
  pub most : ℕ
  pub least : ℕ

-- the first time-stamp of the chain, as it covers this group
abbrev pub begun : Row → ℕ → Cover
begun row id = cover_at row.entry true row.alg row.token (place_of row.members id)

-- the covers of a group from a row on, where the first of these rows has this number
abbrev pub walk : ℕ → ℕ → Option ℕ → List Row → List Cover
walk id at wanted [] = []
walk id at None (row ∷ rows) = []
walk id at (Some w) (row ∷ rows) =
    if w == at then begun row id ∷ (row.later ++ walk id (at + 1) row.next rows) else walk id (at + 1) (Some w) rows

-- the covers of each sealed group, by the row of its seal, where the first of them has this id
abbrev pub sealed_by : List Row → ℕ → List ℕ → List (List Cover)
sealed_by rows id [] = []
sealed_by rows id (first ∷ firsts) = walk id 0 (Some first) rows ∷ sealed_by rows (id + 1) firsts

-- ---- as it is stored

-- the time-stamps by entry
abbrev pub Stamps : Type 0
Stamps = List (Option TimeStamp)

-- the hash of an entry that has a time-stamp
abbrev pub alg_in : Option TimeStamp → HashAlg
alg_in None = Sha256
alg_in (Some t) = t.alg

-- its token
abbrev pub token_in : Option TimeStamp → List ℕ
token_in None = []
token_in (Some t) = t.token

-- the leaves of its tree
abbrev pub leaves_in : Option TimeStamp → List (List ℕ)
leaves_in None = []
leaves_in (Some t) = t.tree.leaves

-- the time-stamp of an entry
abbrev pub stamp_at : Stamps → ℕ → Option TimeStamp
stamp_at stamps entry = slice_index_or stamps entry None

-- the groups
abbrev pub ids_seen : Members → List ℕ
ids_seen (Run first count) = range_with_len first count
ids_seen (Listed ids) = ids

-- a further time-stamp, as it covers each group of the chain
abbrev pub later_seen : Stamps → Later → Cover
later_seen stamps l = cover_at l.stamp false (alg_in (stamp_at stamps l.stamp)) (token_in (stamp_at stamps l.stamp)) l.place

-- what is kept of a chain
abbrev pub plain_of : Stored → Plain
plain_of r = record { stamp = r.stamp; members = ids_seen r.members; later = r.later.items; next = r.next; most = r.most; least = r.least }

-- a row with the hashes and the tokens of its time-stamps
abbrev pub chain_of : Stamps → Plain → Row
chain_of stamps r = record {
  entry = r.stamp;
  alg = alg_in (stamp_at stamps r.stamp);
  token = token_in (stamp_at stamps r.stamp);
  members = r.members;
  later = map (later_seen stamps) r.later;
  next = r.next;
  most = r.most;
  least = r.least;
}

-- what a row says
abbrev pub row_seen : Stamps → Stored → Row
row_seen stamps r = chain_of stamps (plain_of r)

-- what all rows say
abbrev pub rows_seen : Stamps → List Stored → List Row
rows_seen stamps rows = map (row_seen stamps) rows

-- the covers of each sealed group
abbrev pub sealed_in : Stamps → List Stored → List ℕ → List (List Cover)
sealed_in stamps rows firsts = sealed_by (rows_seen stamps rows) 0 firsts

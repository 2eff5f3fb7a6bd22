-- What one row says of the covers of a group.
use Rattle.std.specs.Prelude.{ℕ, nat_le, Bool, List, [], find, Option, Some, None, if◌then◌else◌}
use Rattle.std.specs.Option.{option_map}
use Rattle.civil_moment.specs.declared.moment.Moment.{Moment}
use Rattle.hash_kit.specs.declared.algorithm.HashAlg.{HashAlg}
use Rattle.algorithm_policy.specs.Content.{epoch}
use Rattle.archive_chain.specs.Kept.{Cover}
use Rattle.archive_chain.specs.declared.coverings.Covering.{Covering}
use Rattle.archive_chain.specs.declared.row.Later.{Later}
use Rattle.archive_chain.specs.declared.time_stamp.TimeStamp.{TimeStamp}
use Rattle.archive_chain.specs.InsideTable.{Stamps, alg_in, stamp_at}

-- the first entry from this number on, of one that began a chain and of its further time-stamps
abbrev pub entry_from : ℕ → ℕ → List Later → Option ℕ
entry_from front begun later =
    if nat_le front begun then Some begun else option_map (λ (l : Later). l.stamp) (find (λ (l : Later). nat_le front l.stamp) later)

-- what is told of a time-stamp of a group
pub record Told : Type 0 where
  pub begins : Bool
  pub alg : HashAlg
  pub time : Moment
  pub sid : List ℕ

-- what a Covering tells
abbrev pub covering_seen : Covering → Told
covering_seen c = record { begins = c.begins; alg = c.alg; time = c.time; sid = c.sid.now }

-- of a time-stamp that begins a chain, or goes on with one
abbrev pub told_of : TimeStamp → Bool → Told
told_of t begins = record { begins = begins; alg = t.alg; time = t.time; sid = t.sid }

-- the time and the signer that the token of an entry says
abbrev pub time_in : Option TimeStamp → Moment
time_in None = epoch
time_in (Some t) = t.time

abbrev pub sid_in : Option TimeStamp → List ℕ
sid_in None = []
sid_in (Some t) = t.sid

-- of a cover, by the time-stamp of its entry
abbrev pub told_by : Stamps → Cover → Told
told_by stamps c = record {
  begins = c.begins;
  alg = alg_in (stamp_at stamps c.entry);
  time = time_in (stamp_at stamps c.entry);
  sid = sid_in (stamp_at stamps c.entry);
}

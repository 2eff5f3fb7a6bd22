-- The last time-stamp of a chain.
use Rattle.std.specs.Prelude.{ℕ, List, [], ◌∷◌}
use Rattle.archive_chain.specs.Kept.{Last}
use Rattle.archive_chain.specs.declared.row.Later.{Later}
use Rattle.archive_chain.specs.declared.time_stamp.TimeStamp.{TimeStamp}

-- its entry, in a row that this entry began and that these time-stamps go on
abbrev pub last_entry : ℕ → List Later → ℕ
last_entry stamp [] = stamp
last_entry stamp (l ∷ later) = last_entry l.stamp later

-- what the cohorts' groups have of it
abbrev pub last_seen : TimeStamp → Last
last_seen t = record { alg = t.alg; token = t.token }

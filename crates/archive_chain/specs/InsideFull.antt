-- The peak of some cohorts, cohort by cohort, and their full groups.
use Rattle.std.specs.Prelude.{◌≡◌, ℕ, ◌≤◌, nat_lt, nat_le, true, List, [], Option, Some, None, if◌then◌else◌}
use Rattle.archive_chain.specs.Kept.{Cover, has_name}
use Rattle.archive_chain.specs.Rules.{most_stamps}
use Rattle.archive_chain.specs.InsidePeak.{IsPeak}
use Rattle.archive_chain.specs.declared.peak.Peak.{Peak}

-- the higher of two peaks, and of two equal ones that of the earlier group
abbrev pub higher_of : Peak → Peak → Peak
higher_of a b = if nat_lt a.most b.most then b else if nat_lt b.most a.most then a else if nat_le a.least b.least then a else b

-- it is the peak of this cohort's groups
pub record IsPeakOf (groups : List (List Cover)) (cohort : ℕ) (p : Peak) : Type 0 where
  pub peak : IsPeak (λ c. cohort ≡ c) groups p.most p.least
  pub few : p.most ≤ most_stamps

-- it is the peak of the groups of these cohorts, where there is one
abbrev pub IsPeakSoFar : List (List Cover) → List ℕ → Option Peak → Type 0
IsPeakSoFar groups cohorts None = cohorts ≡ []
IsPeakSoFar groups cohorts (Some p) = IsPeak (λ c. has_name cohorts c ≡ true) groups p.most p.least × (p.most ≤ most_stamps)

-- the first group of a cohort with this peak that has as many time-stamps as a group may have
abbrev pub full_by : Option Peak → Option ℕ
full_by None = None
full_by (Some p) = if nat_le most_stamps p.most then Some p.least else None

-- The most time-stamps of a group of a cohort, and the first group that has as many.
use Rattle.std.specs.Prelude.{◌≡◌, ℕ, ◌≤◌, nat_le, nat_lt, min, slice_get, List, [], ◌∷◌, length, Option, Some, None, if◌then◌else◌}
use Rattle.archive_chain.specs.Kept.{Cover, cohort_of}
use Rattle.archive_chain.specs.InsideRows.{Row}

-- it is the peak of the groups for which the test holds
pub record IsPeak (P : ℕ → Type 0) (groups : List (List Cover)) (most least : ℕ) : Type 0 where
  pub group : List Cover
  pub there : slice_get groups least ≡ Some group
  pub named : P (cohort_of group)
  pub many : length group ≡ most
  pub no_more : (id : ℕ) (g : List Cover) → slice_get groups id ≡ Some g → P (cohort_of g) → length g ≤ most
  pub first : (id : ℕ) (g : List Cover) → slice_get groups id ≡ Some g → P (cohort_of g) → length g ≡ most → least ≤ id

-- a row that nothing took over has the peak of its cohort
abbrev pub IsTop : List (List Cover) → Row → Type 0
IsTop groups row = row.next ≡ None → IsPeak (λ c. row.entry ≡ c) groups row.most row.least

-- a number and its first place: the greater number, then the smaller place
abbrev pub higher : ℕ × ℕ → ℕ × ℕ → ℕ × ℕ
higher a b = if nat_lt a.0 b.0 then b else if nat_lt b.0 a.0 then a else if nat_le a.1 b.1 then a else b

abbrev pub highest : ℕ × ℕ → List (ℕ × ℕ) → ℕ × ℕ
highest a [] = a
highest a (b ∷ peaks) = highest (higher a b) peaks

-- the earlier of two groups, where there is one
abbrev pub earlier : Option ℕ → Option ℕ → Option ℕ
earlier None other = other
earlier (Some id) None = Some id
earlier (Some id) (Some other) = Some (min id other)

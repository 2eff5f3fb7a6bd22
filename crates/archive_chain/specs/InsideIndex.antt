-- Which groups stand in which rows: the cohort of each group by its number, and the rows without their time-stamps.
use Rattle.std.specs.Prelude.{◌≡◌, ℕ, ◌+◌, ◌<◌, true, slice_get, List, [], ◌∷◌, Option, Some, None, if◌then◌else◌}
use Rattle.std.specs.List.{AllByRecursion}
use Rattle.archive_chain.specs.Kept.{has_name}
use Rattle.archive_chain.specs.InsideRows.{next_after}

pub record Bones : Type 0 where
  pub stamp : ℕ
  pub members : List ℕ
  pub next : Option ℕ

-- the groups of these cohorts, from this number on
abbrev pub ids_by : List ℕ → ℕ → List ℕ → List ℕ
ids_by names id [] = []
ids_by names id (c ∷ cohorts) = if has_name names c then id ∷ ids_by names (id + 1) cohorts else ids_by names (id + 1) cohorts

-- the cohorts that new trees make one
abbrev pub taken_bones : List ℕ → ℕ → Bones → Bones
taken_bones named m b = record { stamp = b.stamp; members = b.members; next = next_after named m b.stamp b.next }

abbrev pub renamed : List ℕ → ℕ → ℕ → ℕ
renamed named n c = if has_name named c then n else c

-- the groups of a chain that nothing took over are its cohort
abbrev pub IsLive : List ℕ → Bones → Type 0
IsLive cohorts b = b.next ≡ None → b.members ≡ ids_by (b.stamp ∷ []) 0 cohorts

pub record IsIndexed (table : List Bones) (firsts cohorts : List ℕ) (entries : ℕ) : Type 0 where
  pub below : AllByRecursion (λ c. c < entries) cohorts
  pub live : AllByRecursion (IsLive cohorts) table
  -- each group stands in the row of its Seal, and in each that took over
  pub seals : (id first : ℕ) (b : Bones) → slice_get firsts id ≡ Some first → slice_get table first ≡ Some b → has_name b.members id ≡ true
  pub nexts : (p w : ℕ) (b after : Bones) → slice_get table p ≡ Some b → b.next ≡ Some w → slice_get table w ≡ Some after
      → (id : ℕ) → has_name b.members id ≡ true → has_name after.members id ≡ true

-- Text that is added to a buffer, part by part.
use Rattle.std.specs.Prelude.{◌≡◌, ℕ, ◌+◌, ◌≤◌, List, ◌∷◌, ◌++◌, decimal, flat_map, Result, IsOk, OnOk, Vec, vec_len, vec_capacity}
use Rattle.std.specs.declared.alloc.AllocError.{AllocError}
use Rattle.std.specs.declared.alloc.Global.{Global}
use Rattle.civil_moment.specs.declared.moment.Moment.{Moment}
use Rattle.civil_moment.specs.Moment.{AddsTime, longest_time}

-- The text was added, and takes at most so many bytes; where there was room for these, it was not refused.
pub record Adds (text : List ℕ) (most : ℕ) (old new : Vec ℕ Global) (result : Result (Unit {0}) AllocError) : Type 0 where
  pub ok : OnOk result (new.items ≡ old.items ++ text)
  pub short : OnOk result (vec_len new ≤ vec_len old + most)
  pub capacity : vec_capacity old ≤ vec_capacity new
  pub room : vec_len old + most ≤ vec_capacity old → IsOk result

-- The same of the one text of a moment.
pub record AddsMoment (moment : Moment) (old new : Vec ℕ Global) (result : Result (Unit {0}) AllocError) : Type 0 where
  pub ok : OnOk result (AddsTime old.items new.items moment)
  pub short : OnOk result (vec_len new ≤ vec_len old + longest_time)
  pub capacity : vec_capacity old ≤ vec_capacity new
  pub room : vec_len old + longest_time ≤ vec_capacity old → IsOk result

-- numbers, each behind a space
abbrev pub spaced : List ℕ → List ℕ
spaced numbers = flat_map (λ n. 32 ∷ decimal n) numbers

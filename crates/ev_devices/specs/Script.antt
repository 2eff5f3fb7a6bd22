-- An authority whose replies are written down beforehand.
use Rattle.std.specs.Prelude.{◌≡◌, ◌⊎◌, ℕ, List, slice_get, Some, None}
use Rattle.std.specs.declared.option.Option.{Option}
use Rattle.ev_world.specs.declared.authority.StampCall.{StampCall}

-- its replies, and the calls that were made
pub record Script : Type 0 where
  pub replies : List (Option (List ℕ))
  pub calls : List StampCall

-- there is no reply at this place: the list says so, or has ended
abbrev pub IsSilent : List (Option (List ℕ)) → ℕ → Type 0
IsSilent replies place = (slice_get replies place ≡ Some None) ⊎ (slice_get replies place ≡ None)

-- Whether a source or a sink tells its bytes.
use Rattle.std.specs.Prelude.{ℕ, List, Some, None}
use Rattle.std.specs.declared.option.Option.{Option}

-- it tells them before and after, or never
abbrev pub TellsAlike : Option (List ℕ) → Option (List ℕ) → Type 0
TellsAlike None None = Unit {0}
TellsAlike (Some xs) (Some ys) = Unit {0}
TellsAlike None (Some ys) = ⊥
TellsAlike (Some xs) None = ⊥

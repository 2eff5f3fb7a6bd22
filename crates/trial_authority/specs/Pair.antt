-- A pair of authorities, of which one stamps before a moment and the other from it on.
use Rattle.std.specs.Prelude.{List, if◌then◌else◌}
use Rattle.civil_moment.specs.declared.moment.Moment.{Moment}
use Rattle.civil_moment.specs.Moment.{is_before}
use Rattle.ev_world.specs.declared.authority.StampCall.{StampCall}

-- both authorities, the moment, and the calls that were made
pub record Pairing (A : Type 0) : Type 0 where
  pub early : A
  pub late : A
  pub from : Moment
  pub calls : List StampCall

-- the first where the moment is before the one from which the second authority stamps, else the second
abbrev pub picked : {A : Type 0} → Moment → Moment → A → A → A
picked from now early late = if is_before now from then early else late

-- the authority that stamps at a moment, and the other one
abbrev pub chosen : {A : Type 0} → Pairing A → Moment → A
chosen p now = picked p.from now p.early p.late

-- the authority that doesn't stamp at a moment
abbrev pub other : {A : Type 0} → Pairing A → Moment → A
other p now = picked p.from now p.late p.early

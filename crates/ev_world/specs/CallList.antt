-- What contracts see in the list that an authority keeps of its calls.
use Rattle.std.specs.Prelude.{Bool, List}
use Rattle.ev_world.specs.declared.authority.StampCall.{StampCall}

-- the calls in order, and whether there is room for one more
pub record CallList : Type 0 where
  pub list : List StampCall
  pub has_room : Bool

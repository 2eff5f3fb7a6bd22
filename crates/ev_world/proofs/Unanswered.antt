-- One call more in the list of an authority.
use Rattle.std.proofs.Common.{◌≡◌, ◌+◌, List, [], ◌∷◌, ◌++◌, arith}
use Rattle.ev_world.specs.Calls.{no_reply, unanswered}
use Rattle.ev_world.specs.declared.authority.StampCall.{StampCall}

pub one_more : (calls : List StampCall) (call : StampCall) → unanswered (calls ++ call ∷ []) ≡ unanswered calls + no_reply call
one_more [] call = omega arith
one_more (first ∷ calls) call = omega (arith, one_more calls call)

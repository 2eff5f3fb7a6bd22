use Rattle.std.proofs.Common.{ap, ◌∙◌, ◌+◌, Option, Some, None, List, ℕ}
use Rattle.ev_world.specs.Calls.{unanswered}
use Rattle.ev_world.proofs.Unanswered.{one_more}
use Rattle.ev_world.proofs.laws.a_call_without_a_reply_is_counted.Goals as goal

pub returns : goal.returns
returns c = λ calls call none. one_more calls call ∙ ap (λ (reply : Option (List ℕ)). unanswered calls + elim reply [ Some bytes ↦ 0 | None ↦ 1 ]) none

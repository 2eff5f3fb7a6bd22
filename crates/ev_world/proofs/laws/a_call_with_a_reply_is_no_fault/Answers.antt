use Rattle.std.proofs.Common.{◌≡◌, ap, ◌∙◌, ◌+◌, ◌++◌, ◌∷◌, [], Option, Some, None, List, ℕ, arith}
use Rattle.ev_world.specs.Calls.{unanswered}
use Rattle.ev_world.proofs.Unanswered.{one_more}
use Rattle.ev_world.proofs.laws.a_call_with_a_reply_is_no_fault.Goals as goal

pub returns : goal.returns
returns c = λ calls call reply some.
    let counted : unanswered (calls ++ call ∷ []) ≡ unanswered calls + 0 = one_more calls call ∙ ap (λ (r : Option (List ℕ)). unanswered calls + elim r [ Some bytes ↦ 0 | None ↦ 1 ]) some in
    omega (arith, counted)

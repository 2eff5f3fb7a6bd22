use Rattle.std.proofs.Common.{◌∷◌, ◌++◌, ◌+◌, take, ap, sym, ◌∙◌}
use Rattle.std.proofs.lemmas.List.{take_rest}
use Rattle.algorithm_policy.specs.Fault.{parts}
use Rattle.algorithm_policy.proofs.Splitting.{parts_at, one_part, whole_text}
use Rattle.algorithm_policy.proofs.line.split_once.Goals as goal

pub returns-in_err-place-clause-none : goal.returns-in_err-place-clause-none
returns-in_err-place-clause-none c = rw c.from_residual.ensures (one_part _ _ (sym c.in_err-place.ensures.value))

pub returns-clause-parts : goal.returns-clause-parts
returns-clause-parts c =
    parts_at _ _ _ (sym c.in_ok-place.ensures.value)
    ∙ ap (λ l. take c.in_ok-place.place c.args.text.now ∷ parts c.args.separator l) (sym (take_rest c.args.text.now (c.in_ok-place.place + 1)))

pub returns-clause-whole : goal.returns-clause-whole
returns-clause-whole c =
    whole_text _ _ _ (sym c.in_ok-place.ensures.value)
    ∙ ap (λ l. take c.in_ok-place.place c.args.text.now ++ c.args.separator ∷ l) (sym (take_rest c.args.text.now (c.in_ok-place.place + 1)))

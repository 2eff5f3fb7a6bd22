use Rattle.std.proofs.Common.{◌∷◌, ap, ◌∙◌}
use Rattle.algorithm_policy.proofs.Splitting.{some_part}
use Rattle.algorithm_policy.proofs.line.last_word.Goals as goal

pub returns-in-Some-clause-none : goal.returns-in-Some-clause-none
returns-in-Some-clause-none c =
    let rest = some_part 32 c.in-Some.field-0.1.now in
    (c.in-Some.field-0.0.now, rest.first, rest.rest, c.in-Some.ensures.parts ∙ ap (λ l. c.in-Some.field-0.0.now ∷ l) rest.is)

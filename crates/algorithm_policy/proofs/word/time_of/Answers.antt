use Rattle.std.proofs.Common.{sym, ◌∙◌}
use Rattle.algorithm_policy.proofs.WordLemmas.{time_found}
use Rattle.algorithm_policy.proofs.word.time_of.Goals as goal

pub returns-clause-found : goal.returns-clause-found
returns-clause-found c =
    let same = time_found c.args.word.now c.read_generalized.result c.read_generalized.ensures.fault in
    (λ h. same ∙ sym c.ok.ensures.variant ∙ h, λ h. c.ok.ensures.variant ∙ sym same ∙ h)

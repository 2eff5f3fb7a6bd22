use Rattle.std.proofs.Common.{ap, ◌∙◌}
use Rattle.std.specs.Option.{option_map}
use Rattle.algorithm_policy.specs.declared.signer.Signer.{Signer}
use Rattle.algorithm_policy.proofs.policy.Policy.key_end.Goals as goal

pub returns-in-Some-clause-the_one : goal.returns-in-Some-clause-the_one
returns-in-Some-clause-the_one c = λ signer has same.
    ap (option_map (λ (s : Signer). s.end)) (c.in-Some.ensures.value ∙ c.in-Some.ensures.the_one signer has same)

pub returns-in-None-clause-the_one : goal.returns-in-None-clause-the_one
returns-in-None-clause-the_one c = λ signer has same.
    ap (option_map (λ (s : Signer). s.end)) (c.in-None.ensures.value ∙ c.in-None.ensures.the_one signer has same)

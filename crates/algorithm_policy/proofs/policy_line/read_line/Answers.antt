use Rattle.std.proofs.Common.{Some, refl, ap, sym, ◌∙◌}
use Rattle.algorithm_policy.specs.Inside.{seen}
use Rattle.algorithm_policy.proofs.PolicyLineLemmas.{says_hash, says_authority}
use Rattle.algorithm_policy.proofs.policy_line.read_line.Goals as goal

pub returns-in-Some-clause-read : goal.returns-in-Some-clause-read
returns-in-Some-clause-read c =
    says_hash _ _ _ _ (sym c.in-Some-Hash.ensures ∙ ap (λ l. Some (seen l)) c.in-Some-Hash.field-0-is) c.in-Some.ensures.value (c.in-Some.ensures.found.0 refl)

pub returns-in_ok-signer_of-in-Some-Authority-clause-read :
    goal.returns-in_ok-signer_of-in-Some-Authority-clause-read
returns-in_ok-signer_of-in-Some-Authority-clause-read c =
    says_authority _ _ _ _ _ _ _ (sym c.in-Some-Authority.ensures ∙ ap (λ l. Some (seen l)) c.in-Some-Authority.field-0-is) c.in_ok-signer_of-in-Some-Authority.ensures.read

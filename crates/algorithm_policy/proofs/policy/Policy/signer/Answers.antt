use Rattle.std.proofs.Common.{ap, sym, ◌∙◌}
use Rattle.std.specs.Str.{bytes_eq}
use Rattle.algorithm_policy.specs.declared.signer.Signer.{Signer}
use Rattle.algorithm_policy.specs.Content.{Content, all_pairs}
use Rattle.std.proofs.Common.{not}
use Rattle.algorithm_policy.proofs.LookupLemmas.{found_one}
use Rattle.algorithm_policy.proofs.policy.Policy.signer.Goals as goal

pub returns-clause-the_one : goal.returns-clause-the_one
returns-clause-the_one c = λ signer has same.
    found_one _ _ _ (ap (λ (p : Content). all_pairs (λ (a b : Signer). not (bytes_eq a.sid b.sid)) p.signers) (sym c.self.view_is) ∙ c.self.invariant.distinct) has same

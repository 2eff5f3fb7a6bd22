use Rattle.std.proofs.Common.{List, ap, ◌∙◌}
use Rattle.algorithm_policy.specs.declared.signer.Signer.{Signer}
use Rattle.algorithm_policy.specs.Content.{Content}
use Rattle.algorithm_policy.specs.Change.{with_signer}
use Rattle.algorithm_policy.proofs.PlaceLemmas.{valid_signer, adds_signer}
use Rattle.algorithm_policy.proofs.policy.Policy.push_signer.Goals as goal

pub invariant_of-self-2 : goal.invariant_of-self-2
invariant_of-self-2 c = rw (c.in-Ok.ensures.items) (valid_signer _ c.args.signer (rw c.self.view_is c.requires))

pub returns-clause-ok : goal.returns-clause-ok
returns-clause-ok c =
    adds_signer _ _ _
    (ap (λ (l : List Signer). let p : Content = record { sha256 = c.self.inside.sha256; sha384 = c.self.inside.sha384; sha512 = c.self.inside.sha512; signers = l } in p) c.in-Ok.ensures.items
    ∙ ap (λ p. with_signer p c.args.signer) c.self.view_is)
    c.requires

use Rattle.std.proofs.Common.{sym, ap, ◌∙◌}
use Rattle.std.specs.List.{list_all}
use Rattle.algorithm_policy.specs.declared.signer.Signer.{Signer}
use Rattle.algorithm_policy.specs.Content.{Content, is_below, all_pairs}
use Rattle.algorithm_policy.proofs.LookupLemmas.{last_decides}
use Rattle.algorithm_policy.proofs.policy.Policy.ends_below.Goals as goal

pub returns-in-Some : goal.returns-in-Some
returns-in-Some c =
    let view = ap (λ (p : Content). p.signers) c.self.view_is in
    let split = sym c.deref.ensures.value ∙ c.in-Some.ensures.cases.0 in
    c.is_below.ensures
    ∙ ap (λ name. is_below name c.args.name.now) c.as_slice.ensures
    ∙ sym (last_decides _ _ c.args.name.now (sym (ap (all_pairs (λ (a b : Signer). is_below a.name b.name)) split) ∙ c.self.invariant.ascending))
    ∙ ap (list_all (λ (s : Signer). is_below s.name c.args.name.now)) (sym split ∙ view)

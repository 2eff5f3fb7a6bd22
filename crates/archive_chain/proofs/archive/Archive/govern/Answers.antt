use Rattle.std.proofs.Common.{refl, subst}
use Rattle.std.specs.Prelude.{IfErr}
use Rattle.algorithm_policy.specs.Content.{Content}
use Rattle.archive_chain.specs.Rules.{PolicyBreaks}
use Rattle.archive_chain.specs.InsideToken.{Refuses, IsKeptBy}
use Rattle.archive_chain.proofs.Tokens.{handed_on}
use Rattle.archive_chain.proofs.archive.Archive.govern.Goals as goal

pub returns-clause-made : goal.returns-clause-made
returns-clause-made c =
    let kept : IsKeptBy c.args.self.now.policy c.args.text.now c.in_ok-policy.policy = subst (λ (p : Content). IsKeptBy p c.args.text.now c.in_ok-policy.policy) c.policy.ensures c.in_ok-policy.ensures.keeps in record {
      fits = (kept.kept, (c.args.text.now, refl, kept.says));
      leaves_are = refl;
      keeps = (c.in_ok-policy.policy, kept.says, kept.kept);
    }

pub returns-in_err-policy-clause-breaks : goal.returns-in_err-policy-clause-breaks
returns-in_err-policy-clause-breaks c =
    subst (λ (p : Content). IfErr c.from_residual.result (Refuses (PolicyBreaks p c.args.text.now))) c.policy.ensures
    (handed_on (Refuses (PolicyBreaks c.policy.result.now c.args.text.now)) _ _ c.from_residual.ensures.1 c.in_err-policy.ensures.breaks)

use Rattle.std.proofs.Common.{◌++◌, ◌∷◌, [], take, ap, sym, ◌∙◌}
use Rattle.std.proofs.lemmas.List.{take_more}
use Rattle.algorithm_policy.proofs.WriteLemmas.{one_more}
use Rattle.algorithm_policy.proofs.writing.push_signers.Goals as goal

pub loop-signer-preserved : goal.loop-signer-preserved
loop-signer-preserved c =
    let done = take c.loop-signer.signer-index c.args.signers.now in
    one_more _ _ _ done _ c.signer-item.result
    (take_more c.args.signers.now c.loop-signer.signer-index c.signer-item.result c.loop-signer-test.true ∙ ap (λ s. done ++ s ∷ []) (sym c.signer-item.is))
    c.loop-signer.invariant c.in_ok-push_signer.ensures

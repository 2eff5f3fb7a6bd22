use Rattle.std.proofs.Common.{rules, arith, ◌<◌, ◌+◌, ◌++◌, ◌∷◌, [], ℕ, List, sym, ap, ◌∙◌}
use Rattle.archive_chain.proofs.Copying.{run_more, run_at}
use Rattle.archive_chain.proofs.row.run.Goals as goal

pub overflow_add-id : goal.overflow_add-id
overflow_add-id c =
    let less : c.loop-index.index < c.args.count = search rules in
    let h = run_at c.args.first c.args.count c.loop-index.index c.requires less in
    omega (arith, h)

pub loop-index-preserved : goal.loop-index-preserved
loop-index-preserved c =
    c.in_ok-push.ensures.items ∙ ap (λ (l : List ℕ). l ++ (c.args.first + c.loop-index.index) ∷ []) c.loop-index.invariant ∙ sym (run_more c.args.first c.loop-index.index)

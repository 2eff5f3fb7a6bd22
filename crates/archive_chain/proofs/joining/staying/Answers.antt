use Rattle.std.proofs.Common.{◌+◌, ℕ, List, ◌++◌, drop, get_or, ap, ◌∙◌}
use Rattle.std.specs.Prelude.{not}
use Rattle.archive_chain.specs.InsidePieces.{staying}
use Rattle.archive_chain.proofs.Finding.{none_named, some_named}
use Rattle.archive_chain.proofs.Gathering.{stay_push, stay_skip}
use Rattle.archive_chain.proofs.joining.staying.Goals.{then-is_none+in_ok-push, else-is_none}
use Rattle.archive_chain.proofs.joining.staying.Goals as goal

pub loop-at-preserved : goal.loop-at-preserved
loop-at-preserved c =
    let names : List ℕ = c.args.names.now in
    let items : List ℕ = c.args.items.now in
    let cohorts : List ℕ = c.args.cohorts.now in
    let at : ℕ = c.loop-at.at in
    let name : ℕ = get_or names at 0 in
    let done : List ℕ = c.loop-at.all.items in
    let all : List ℕ = staying cohorts names items in
    let left : List ℕ = staying cohorts (drop (at + 1) names) (drop (at + 1) items) in
    elim c.if-is_none.branch [
      | then-is_none+in_ok-push w ↦ (λ i. (w.all-is i).items ++ left) ∙ (λ i. w.in_ok-push.ensures.items i ++ left)
          ∙ stay_push cohorts names items done all at c.loop-at-test.true c.requires.alike (none_named cohorts name c.find.result c.find.ensures (c.is_none.ensures ∙ ap not w.if-is_none.true)) c.loop-at.invariant
      | else-is_none w ↦ (λ i. (w.all-is i).items ++ left)
          ∙ stay_skip cohorts names items done all at c.loop-at-test.true c.requires.alike (some_named cohorts name c.find.result c.find.ensures (c.is_none.ensures ∙ ap not w.if-is_none.false)) c.loop-at.invariant
    ]

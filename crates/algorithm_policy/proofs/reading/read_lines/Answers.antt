use Rattle.std.proofs.Common.{sym, ◌∙◌, arith}
use Rattle.algorithm_policy.proofs.PlaceLemmas.{few_lines}
use Rattle.algorithm_policy.proofs.ReadLemmas.{begins, goes_on, is_read, stops}
use Rattle.algorithm_policy.proofs.reading.read_lines.Goals as goal

pub loop-left-init : goal.loop-left-init
loop-left-init c = rw c.in_ok-policy.ensures.value (begins c.args.lines.now)

pub returns-in-Err-clause-fault : goal.returns-in-Err-clause-fault
returns-in-Err-clause-fault c = rw c.at.ensures (stops _ _ _ _ _ c.loop-left.invariant c.in-Err.ensures.fault)

pub overflow_add-number : goal.overflow_add-number
overflow_add-number c =
    let counted = c.loop-left.invariant.counted in
    let few = few_lines c.loop-left.policy c.loop-left.invariant.valid in
    omega arith

pub loop-left-preserved : goal.loop-left-preserved
loop-left-preserved c = goes_on _ _ _ _ _ _ c.loop-left.invariant c.in-Ok.ensures.taken

pub returns-clause-found : goal.returns-clause-found
returns-clause-found c = is_read _ _ _ _ c.loop-left.invariant (sym c.is_empty.ensures ∙ c.loop-left-test.false)

use Rattle.std.proofs.Common.{sym, ◌∙◌}
use Rattle.algorithm_policy.proofs.ReadLemmas.{behind_header, other_line, no_line}
use Rattle.algorithm_policy.proofs.reading.behind_header.Goals as goal

pub returns-in_err-line-clause-none : goal.returns-in_err-line-clause-none
returns-in_err-line-clause-none c = rw c.from_residual.ensures (no_line _ c.in_err-line.ensures.none)

pub returns-then-eq-clause-found : goal.returns-then-eq-clause-found
returns-then-eq-clause-found c =
    behind_header _ _ _ c.in_ok-line.ensures.parts c.in_ok-line.ensures.whole (sym c.eq.ensures ∙ c.if-eq.true)

pub returns-else-eq-clause-none : goal.returns-else-eq-clause-none
returns-else-eq-clause-none c =
    other_line c.args.text.now _ c.in_ok-line.lines.now c.in_ok-line.ensures.parts (sym c.eq.ensures ∙ c.if-eq.false)

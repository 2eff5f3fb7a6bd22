use Rattle.std.proofs.Common.{Bool, Option, Some, None, if◌then◌else◌, sym, ap, ◌∙◌}
use Rattle.archive_issue.specs.declared.fault.IssueFault.{IssueFault}
use Rattle.archive_issue.specs.declared.fault.IssueFault.TheVariants.{Early}
use Rattle.archive_issue.proofs.Lasting.{early_last}
use Rattle.archive_issue.proofs.reason.early.Goals as goal

pub returns-then-is_before : goal.returns-then-is_before
returns-then-is_before c =
    let x = c.in_ok-last.field-0.now in
    let fault : Option IssueFault = Some (Early c.args.moment x.time) in
    sym (ap (λ (b : Bool). if b then fault else None) (sym c.is_before.ensures ∙ c.if-is_before.true)) ∙ early_last c.args.moment c.args.marks.now x (sym c.in_ok-last.ensures.value)

pub returns-else-is_before : goal.returns-else-is_before
returns-else-is_before c =
    let x = c.in_ok-last.field-0.now in
    let fault : Option IssueFault = Some (Early c.args.moment x.time) in
    sym (ap (λ (b : Bool). if b then fault else None) (sym c.is_before.ensures ∙ c.if-is_before.false)) ∙ early_last c.args.moment c.args.marks.now x (sym c.in_ok-last.ensures.value)

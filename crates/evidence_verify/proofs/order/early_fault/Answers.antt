use Rattle.std.proofs.Common.{◌-◌, length, refl, sym, ap, ◌∙◌}
use Rattle.evidence_verify.proofs.Turns.{early_by, early_last}
use Rattle.evidence_verify.proofs.order.early_fault.Goals as goal

pub returns-then-is_before : goal.returns-then-is_before
returns-then-is_before c =
    let xs = c.args.stamps.now in
    let x = c.in_ok-stamp.stamp.now in
    sym (early_last c.args.moment xs (length xs - 1) x refl (sym c.in_ok-stamp.ensures.value) ∙ ap (early_by c.args.moment x.says.time) (sym c.is_before.ensures ∙ c.if-is_before.true))

pub returns-else-is_before : goal.returns-else-is_before
returns-else-is_before c =
    let xs = c.args.stamps.now in
    let x = c.in_ok-stamp.stamp.now in
    sym (early_last c.args.moment xs (length xs - 1) x refl (sym c.in_ok-stamp.ensures.value) ∙ ap (early_by c.args.moment x.says.time) (sym c.is_before.ensures ∙ c.if-is_before.false))

use Rattle.std.proofs.Common.{◌≡◌, ◌++◌}
use Rattle.lms_verify.specs.Ots.{joined, coef}
use Rattle.lms_sign.specs.Ots.{value_after}
use Rattle.lms_sign.proofs.ots.write_values.Given as goal

abbrev pub invariant-loop-i : goal.invariant-loop-i
invariant-loop-i l =
    l.out.items ≡ l.fn.out.items ++ joined (λ i. value_after l.tree l.leaf i (coef l.digits i l.set.width)) l.i

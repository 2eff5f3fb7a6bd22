use Rattle.std.proofs.Common.{◌≡◌, ◌-◌, ◌*◌, ◌^◌, ◌≤◌}
use Rattle.lms_verify.specs.Ots.{total, coef}
use Rattle.lms_verify.proofs.ots.checksum.Given as goal

abbrev pub invariant-loop-i : goal.invariant-loop-i
invariant-loop-i l =
    (l.lacking ≡ total (λ i. 2 ^ l.set.width - 1 - coef l.bytes i l.set.width) l.i)
    × (l.lacking ≤ l.i * (2 ^ l.set.width - 1))

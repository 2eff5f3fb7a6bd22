use Rattle.std.proofs.Common.{◌≡◌, drop, map}
use Rattle.evidence_verify.specs.Order.{order_after}
use Rattle.evidence_verify.specs.Inside.{checked_seen}
use Rattle.evidence_verify.proofs.order.order_after.Given as goal

abbrev pub invariant-loop-stamp : goal.invariant-loop-stamp
invariant-loop-stamp l =
    order_after l.before (map checked_seen (drop l.stamp-index l.stamps)) ≡ order_after l.fn.first (map checked_seen l.fn.stamps)

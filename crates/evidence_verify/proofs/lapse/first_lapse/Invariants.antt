use Rattle.std.proofs.Common.{◌≡◌, drop, map}
use Rattle.evidence_verify.specs.Marks.{first_lapse}
use Rattle.evidence_verify.specs.Lapse.{mark_seen}
use Rattle.evidence_verify.proofs.lapse.first_lapse.Given as goal

abbrev pub invariant-loop-number : goal.invariant-loop-number
invariant-loop-number l =
    first_lapse l.policy l.moment (map mark_seen (drop l.number l.marks))
    ≡ first_lapse l.fn.policy l.fn.moment (map mark_seen l.fn.marks)

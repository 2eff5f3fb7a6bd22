use Rattle.std.proofs.Common.{◌≡◌, drop, map}
use Rattle.evidence_verify.specs.Covers.{cover_fault}
use Rattle.evidence_verify.specs.Inside.{owed_seen}
use Rattle.evidence_verify.proofs.covering.cover_fault.Given as goal

abbrev pub invariant-loop-owed : goal.invariant-loop-owed
invariant-loop-owed l =
    cover_fault (map owed_seen (drop l.owed-index l.all_owed)) ≡ cover_fault (map owed_seen l.fn.all_owed)

use Rattle.std.proofs.Common.{◌≡◌, drop, map}
use Rattle.evidence_verify.specs.Covers.{first_not_whole}
use Rattle.evidence_verify.specs.Inside.{owed_seen}
use Rattle.evidence_verify.proofs.whole.first_not_whole.Given as goal

abbrev pub invariant-loop-owed : goal.invariant-loop-owed
invariant-loop-owed l =
    first_not_whole (map owed_seen (drop l.owed-index l.all_owed)) ≡ first_not_whole (map owed_seen l.fn.all_owed)

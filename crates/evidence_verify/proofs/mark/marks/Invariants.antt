use Rattle.std.proofs.Common.{◌≡◌, take, map}
use Rattle.evidence_verify.specs.Lapse.{marks_of, mark_seen}
use Rattle.evidence_verify.specs.Inside.{checked_seen}
use Rattle.evidence_verify.proofs.mark.marks.Given as goal

abbrev pub invariant-loop-stamp : goal.invariant-loop-stamp
invariant-loop-stamp l = map mark_seen l.marks.items ≡ marks_of (map checked_seen (take l.stamp-index l.stamps))

use Rattle.std.proofs.Common.{◌≡◌, ◌≤◌, ◌++◌, map, drop}
use Rattle.evidence_verify.specs.Lapse.{mark_seen}
use Rattle.archive_issue.specs.InsideMarks.{marks_after, marks_by}
use Rattle.archive_issue.proofs.marks.marks.Given as goal

abbrev pub invariant-loop-covering : goal.invariant-loop-covering
invariant-loop-covering l =
    (map mark_seen l.marks.items ++ marks_after l.chain l.stamp (drop l.covering-index l.later) ≡ marks_by l.coverings)
    × (l.chain ≤ l.covering-index) × (l.stamp ≤ l.covering-index)

use Rattle.std.proofs.Common.{map, ap, ◌∙◌}
use Rattle.evidence_verify.specs.Lapse.{mark_seen}
use Rattle.archive_issue.specs.Reason.{time_reason}
use Rattle.archive_issue.specs.InsideMarks.{marks_by}
use Rattle.archive_issue.proofs.Reasoning.{at_times}
use Rattle.archive_issue.proofs.reason.reason.Goals as goal

pub returns-clause-reason : goal.returns-clause-reason
returns-clause-reason c = λ history agrees.
    let held = c.args.archive.now in
    let marks = c.in_ok-marks.ensures ∙ ap marks_by c.as_slice.ensures in
    at_times held history c.args.id c.args.moment agrees c.in_ok-coverings.coverings c.time_reason.result (c.covered.ensures.0 c.if-not-covered.false) c.in_ok-coverings.ensures.said
    (c.time_reason.ensures ∙ (λ i. time_reason (c.policy.ensures i) c.args.moment (map mark_seen (c.as_slice-2.ensures.value i))) ∙ ap (time_reason held.policy c.args.moment) marks)

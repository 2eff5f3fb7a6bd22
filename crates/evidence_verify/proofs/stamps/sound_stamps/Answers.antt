use Rattle.std.proofs.Common.{map, ap, ◌∙◌, Err}
use Rattle.evidence_verify.specs.Inside.{checked_seen}
use Rattle.evidence_verify.proofs.Firsts.{blamed}
use Rattle.evidence_verify.proofs.stamps.sound_stamps.Goals as goal

pub returns-in-Err-clause-fault : goal.returns-in-Err-clause-fault
returns-in-Err-clause-fault c =
    let l = c.loop-place in
    rw c.stamp_fault.ensures
    (blamed c.args.policy.now c.args.places.now l.place-index c.place-item.result (map checked_seen l.stamps.items) c.in-Err.fault c.loop-place-test.true c.place-item.is
    l.invariant.in_place l.invariant.sound (λ check e. c.check_token.ensures.fault check (c.in-Err.is ∙ ap (λ f. Err f) e)))

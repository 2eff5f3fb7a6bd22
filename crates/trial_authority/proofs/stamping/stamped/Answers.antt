use Rattle.trial_authority.specs.Stamping.{opened_of}
use Rattle.trial_authority.proofs.Answered.{opens_still, answered}
use Rattle.trial_authority.proofs.States.{if_ok}
use Rattle.trial_authority.proofs.stamping.stamped.Goals as goal

pub returns-in-Open-clause-stamped : goal.returns-in-Open-clause-stamped
returns-in-Open-clause-stamped g c =
    let by = c.stamped_by.ensures in
    let opens = opens_still g.B.Disk.tells g.B.Disk.reads c.in-Open.state.disk (opened_of c.in-Open.state) in
    rw c.in-Open.is (record {
      answers = if_ok c.stamped_by.result.1 _ _ (λ reply gives. answered _ _ _ _ _ _ _ _ _ _ opens gives) by.answers;
      rose = by.failed;
      breaks = by.breaks;
      wants = by.wants;
      untouched = λ none. absurd (by.open none);
      later = by.later;
      any_moment = by.any_moment;
    })

pub returns-in-Unopened-clause-stamped : goal.returns-in-Unopened-clause-stamped
returns-in-Unopened-clause-stamped g c =
    let on = c.stamped_on.ensures in
    rw c.in-Unopened.is (record {
      answers = on.answers;
      rose = on.failed;
      breaks = on.breaks;
      wants = λ memory. tt;
      untouched = on.untouched;
      later = on.later;
      any_moment = on.any_moment;
    })

use Rattle.ev_world.proofs.Moments.{weakly, follows_on}
use Rattle.trial_authority.specs.Stamping.{IsMarkedTo}
use Rattle.trial_authority.specs.Stamping.{opened_of}
use Rattle.trial_authority.proofs.Answered.{opens_now, answered}
use Rattle.trial_authority.proofs.States.{if_ok}
use Rattle.trial_authority.proofs.stamping.stamped_on.Goals as goal

pub returns-in-Ok-clause-answers : goal.returns-in-Ok-clause-answers
returns-in-Ok-clause-answers g c =
    let found = c.in-Ok.ensures in
    let opens = opens_now g.B.Disk.tells g.B.Disk.reads c.args.disk (opened_of c.in-Ok.state) found.whole found.on_disk found.made found.fits in
    if_ok c.stamped_by.result.1 _ _ (λ reply gives. answered _ _ _ _ _ _ _ _ _ _ opens gives) c.stamped_by.ensures.answers

pub returns-in-Ok-clause-any_moment : goal.returns-in-Ok-clause-any_moment
returns-in-Ok-clause-any_moment g c = λ n tells marked.
    let quiet = c.in-Ok.ensures.quiet tells (marked (g.B.Disk.reads c.args.disk) (g.met.B.Disk.reads_now c.args.disk tells)).formatted in
    let later = c.stamped_by.ensures.any_moment n tells (λ b left. marked b (quiet.no_more b left)) in
    follows_on g.B.Disk.clock g.B.Disk.since _ _ _ (IsMarkedTo n) (IsMarkedTo n) (weakly g.B.Disk.clock g.B.Disk.since _ _ (IsMarkedTo n) _ quiet.run marked) later (λ b p. p)

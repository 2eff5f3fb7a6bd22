use Rattle.trial_authority.proofs.Answered.{seed_of, handed_by, held_kept}
use Rattle.trial_authority.proofs.authority.TrialAuthorityAuthority.stamp.Goals as goal

pub returns-clause-stamped : goal.returns-clause-stamped
returns-clause-stamped g c =
    let same = seed_of c.make_key.new.key c.in-Some.key c.self.inside.seed c.in-Ok-Ok.ensures'.made c.in-Some.is in
    rw (← c.self.view_is) (handed_by _ _ _ _ _ _ _ _ _ _ _ _ same _ _ _ _ c.end.ensures.handed c.replace_with-answer.ensures.1)

pub returns-clause-kept : goal.returns-clause-kept
returns-clause-kept g c = held_kept _ _ _ _ c.replace_with-answer.ensures.0

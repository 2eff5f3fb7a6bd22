use Rattle.std.proofs.Common.{subst}
use Rattle.ev_world.specs.Calls.{IsPassedOn}
use Rattle.ev_world.proofs.PassedOn.{listed_passed, handed_passed}
use Rattle.trial_authority.specs.Pair.{picked, chosen}
use Rattle.trial_authority.proofs.pair.TrialPairAuthority.stamp.Goals as goal

pub returns-clause-passed : goal.returns-clause-passed
returns-clause-passed g c =
    let made = g.A.Authority.made in
    let here = listed_passed _ _ _ _ _ c.ask-answer.ensures.listed in
    let handed = handed_passed _ _ _ _ _ _ _ c.end.ensures.handed here in
    subst (λ p. IsPassedOn (λ b. b) (made (chosen p c.args.now)) (made (picked c.self.inside.from c.args.now c.ask-answer.new.early c.ask-answer.new.late)) c.args.now c.args.request.now c.end.result) c.self.view_is handed

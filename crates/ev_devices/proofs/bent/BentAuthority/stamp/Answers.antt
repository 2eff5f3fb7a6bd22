use Rattle.std.proofs.Common.{Ok, Err, refl, ◌∙◌, subst}
use Rattle.ev_world.specs.Calls.{IsPassedOn}
use Rattle.ev_world.proofs.PassedOn.{reply_passed, fault_passed, handed_passed, at_request}
use Rattle.ev_devices.specs.Bend.{bent_request, bent_reply}
use Rattle.ev_devices.proofs.bent.BentAuthority.stamp.Goals as goal

pub returns-in-Ok-clause-passed : goal.returns-in-Ok-clause-passed
returns-in-Ok-clause-passed g c =
    subst (λ b. IsPassedOn (bent_reply b) (g.A.Authority.made b.inner) (g.A.Authority.made c.stamp.new.self) c.args.now (bent_request b c.args.request.now) c.end.result) c.self.view_is
    (at_request _ _ _ _ _ _ _ (c.deref.ensures.value ∙ c.in-Ok-Ok.ensures')
    (handed_passed _ _ _ _ _ (Ok c.handed-handed.result) _ c.end.ensures.handed
    (reply_passed _ _ _ _ _ c.in-Ok.reply c.handed-handed.result c.handed-handed.ensures (rw c.in-Ok.is at c.stamp.ensures))))

pub returns-clause-passed : goal.returns-clause-passed
returns-clause-passed g c =
    subst (λ b. IsPassedOn (bent_reply b) (g.A.Authority.made b.inner) (g.A.Authority.made c.stamp.new.self) c.args.now (bent_request b c.args.request.now) c.end-in-Err.result) c.self.view_is
    (at_request _ _ _ _ _ _ _ (c.deref.ensures.value ∙ c.in-Ok-Ok.ensures')
    (handed_passed _ _ _ _ _ (Err c.in-Err.fault) _ c.end-in-Err.ensures.handed
    (fault_passed _ _ _ _ _ c.in-Err.fault _ refl (rw c.in-Err.is at c.stamp.ensures))))

use Rattle.std.proofs.Common.{◌∙◌}
use Rattle.trial_authority.proofs.States.{made_over_few, says_long, if_ok, if_err}
use Rattle.trial_authority.proofs.indexes.made.Goals as goal

pub returns-in-Ok-clause-unused : goal.returns-in-Ok-clause-unused
returns-in-Ok-clause-unused g c =
    let made = rw c.in-Ok.is at c.create-disk.ensures.made in
    let unused = rw c.in-Ok.is at c.create-disk.ensures.unused in
    if_ok c.open.result _ _ (λ k opened tells. opened.next tells ∙ unused tells (c.requires tells) (made_over_few _ _ _ (made tells (c.requires tells)) (opened.keys tells))) c.open.ensures.opened

pub returns-in-Ok-clause-fits : goal.returns-in-Ok-clause-fits
returns-in-Ok-clause-fits g c =
    let made = rw c.in-Ok.is at c.create-disk.ensures.made in
    if_ok c.open.result _ _ (λ k opened tells. made_over_few _ _ _ (made tells (c.requires tells)) (opened.keys tells)) c.open.ensures.opened

pub returns-in-Ok-clause-fault : goal.returns-in-Ok-clause-fault
returns-in-Ok-clause-fault g c =
    let made = rw c.in-Ok.is at c.create-disk.ensures.made in
    if_err c.open.result _ _ (λ e refuses tells. says_long _ _ (made tells (c.requires tells)) e.1 (refuses tells)) c.open.ensures.fault

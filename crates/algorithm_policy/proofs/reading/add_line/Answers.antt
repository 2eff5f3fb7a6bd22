use Rattle.algorithm_policy.proofs.ReadLemmas.{no_form, own_blames, place_blames, takes_line}
use Rattle.algorithm_policy.proofs.reading.add_line.Goals as goal

pub returns-in_default-clause-fault : goal.returns-in_default-clause-fault
returns-in_default-clause-fault c = λ number. no_form number _ _ c.requires c.in_default.ensures.none

pub returns-in-Err-clause-fault : goal.returns-in-Err-clause-fault
returns-in-Err-clause-fault c =
    own_blames _ _ c.args.left.now _ c.in-Some.after.now c.in-Some.ensures.parts c.in-Err.ensures.fault

pub returns-in-Ok-add-clause-taken : goal.returns-in-Ok-add-clause-taken
returns-in-Ok-add-clause-taken c =
    takes_line _ _ _ _ _ _ c.in-Some.ensures.whole c.in-Some.ensures.parts c.in-Ok.ensures.read c.in-Ok-add.ensures.ok

pub returns-in-Err-add-clause-fault : goal.returns-in-Err-add-clause-fault
returns-in-Err-add-clause-fault c =
    place_blames _ _ _ c.args.left.now _ c.in-Some.after.now c.in-Some.ensures.parts c.in-Ok.ensures.read c.in-Err-add.ensures.fault

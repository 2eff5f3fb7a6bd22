use Rattle.token_check.proofs.Answered.{only_sound, refused_first}
use Rattle.token_check.proofs.token.check_token.Goals as goal

pub returns-clause-only : goal.returns-clause-only
returns-clause-only c =
    only_sound c.args.policy.now c.args.bytes.now c.checked.result c.checked.ensures.sound c.checked.ensures.fault

pub returns-clause-refused : goal.returns-clause-refused
returns-clause-refused c =
    refused_first c.args.policy.now c.args.bytes.now c.checked.result c.checked.ensures.sound c.checked.ensures.fault

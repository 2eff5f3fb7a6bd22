use Rattle.std.proofs.Common.{◌+◌, arith}
use Rattle.tst_info.specs.Request.{request_seen}
use Rattle.trial_authority.specs.Reply.{positive}
use Rattle.trial_authority.proofs.Lengths.{positive_length}
use Rattle.trial_authority.proofs.Spelled.{positive_is, info_spelled, info_length}
use Rattle.trial_authority.proofs.States.{if_ok}
use Rattle.trial_authority.proofs.reply.info.Goals as goal

pub info_with-requires-clause-spelled : goal.info_with-requires-clause-spelled
info_with-requires-clause-spelled c =
    let number = c.args.index + 1 in
    info_spelled c.args._request.now (request_seen c.args.asked) c.requires.asked.0 (positive number) c.args.now c.requires.asked.1 (positive_length number) (positive_is number (omega arith))

pub returns-clause-short : goal.returns-clause-short
returns-clause-short c =
    if_ok c.info_with.result _ _ (λ bytes says. omega (arith, info_length c.args._request.now (request_seen c.args.asked) c.requires.asked.0 c.args.index c.args.now bytes.items c.requires.asked.1 says)) c.info_with.ensures

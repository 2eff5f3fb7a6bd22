use Rattle.cms_signed.specs.Text.{to_sign}
use Rattle.cms_signed.proofs.Answered.{if_ok_then}
use Rattle.cms_signed.proofs.TokenWritten.{is_read_again}
use Rattle.cms_signed.proofs.writing.write_signed.Goals as goal

pub returns-clause-read_again : goal.returns-clause-read_again
returns-clause-read_again c =
    let u = to_sign c.args.parts.now in
    let signature = c.args.signature.now in
    if_ok_then c.content_info.result _ _ (λ bytes is. rw is (is_read_again u signature c.requires c.is_short.ensures)) c.content_info.ensures

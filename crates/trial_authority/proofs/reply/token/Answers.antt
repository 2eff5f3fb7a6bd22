use Rattle.std.proofs.Common.{length, ap, arith, ◌∙◌}
use Rattle.trial_authority.proofs.Lengths.{length-certificate}
use Rattle.trial_authority.proofs.Spelled.{parts_have_text}
use Rattle.trial_authority.proofs.reply.token.Goals as goal

pub identifier-requires : goal.identifier-requires
identifier-requires c = omega (arith, ap length c.certificate-certificate.ensures, length-certificate c.args.key.now.seed)

pub write_signed-requires : goal.write_signed-requires
write_signed-requires c =
    parts_have_text c.args.key.now.seed c.args.info.items _ _ _ _ c.args.index c.deref.result.now c.args.key.now c.requires.key c.from_vec.ensures c.certificate-certificate.ensures c.in_ok-identifier.ensures
    (c.deref.ensures.value ∙ c.in_ok-message.ensures.text) (c.deref-2.ensures.value ∙ c.in-Ok.ensures.signature) c.requires.short

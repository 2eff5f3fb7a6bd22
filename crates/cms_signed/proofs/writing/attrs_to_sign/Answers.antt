use Rattle.std.proofs.Common.{◌∙◌, sym}
use Rattle.cms_signed.specs.Text.{attributes_text, to_sign}
use Rattle.cms_signed.proofs.Answered.{if_ok_then}
use Rattle.cms_signed.proofs.AttributesText.{set_of}
use Rattle.cms_signed.proofs.writing.attrs_to_sign.Goals as goal

pub returns-clause-signed : goal.returns-clause-signed
returns-clause-signed c = if_ok_then c.set_of_attributes.result _ _ (λ bytes is signature. is ∙ sym (set_of (attributes_text (to_sign c.args.parts.now)))) c.set_of_attributes.ensures

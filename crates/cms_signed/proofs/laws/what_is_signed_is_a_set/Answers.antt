use Rattle.std.proofs.Common.{◌≡◌, ◌∙◌, ap, sym}
use Rattle.der_values.specs.Value.{value}
use Rattle.der_values.specs.Shape.{spell}
use Rattle.cms_signed.specs.Attributes.{attributes}
use Rattle.cms_signed.specs.Signed.{NamedParts, as_set}
use Rattle.cms_signed.proofs.AttributesText.{set_of}
use Rattle.cms_signed.proofs.laws.what_is_signed_is_a_set.Goals as goal

pub returns : goal.returns
returns c = λ bytes s m.
    let contents = spell attributes m.parts.0.1.0.0.1.1.1.1.1.0.0.1.1.1.0 in
    let is : s.attrs ≡ value 0xa0 contents = sym (ap (λ (n : NamedParts). n.signer.signed.attributes.encoding) m.named) in
    (contents, is, ap as_set is ∙ set_of contents)

use Rattle.std.proofs.Common.{◌∙◌, ap}
use Rattle.der_values.specs.Value.{value}
use Rattle.der_values.specs.Next.{seen}
use Rattle.cms_signed.proofs.AttributesText.{attributes_found}
use Rattle.cms_signed.proofs.attributes.signed_attributes.Goals as goal

pub returns : goal.returns
returns c =
    let t = c.args.t.now in
    attributes_found c.attributes_left.result (seen t) t.whole.now (λ i. c.are_octets.ensures i) (c.requires.value.whole.is ∙ ap (λ tag. value tag t.content.now) c.requires.tag) (rw c.contents.ensures at c.attributes_left.ensures.found) c.attributes_left.ensures.whole

-- The signed attributes that were read are those that stand in the bytes.
use Rattle.std.proofs.Common.{◌≡◌, ◌∙◌, ℕ, List, Result, Ok, Err, sym, ap, refl}
use Rattle.std.specs.Prelude.{IfOk}
use Rattle.der_values.specs.Input.{Item}
use Rattle.der_values.specs.Value.{value}
use Rattle.der_values.specs.Steps.{◌>>=◌}
use Rattle.der_values.specs.Next.{contents}
use Rattle.der_values.specs.Shape.{spell}
use Rattle.der_values.specs.Reading.{Reading, read, Finds}
use Rattle.der_values.proofs.Octets.{IsBytes}
use Rattle.der_values.proofs.Sound.{takes}
use Rattle.cms_signed.specs.declared.attributes.SignedAttributes.{SignedAttributes}
use Rattle.cms_signed.specs.declared.fault.CmsFault.{CmsFault}
use Rattle.cms_signed.specs.State.{State, start}
use Rattle.cms_signed.specs.Checks.{cms_checks}
use Rattle.cms_signed.specs.Attributes.{attributes, AttributesParts, encoded}
use Rattle.cms_signed.specs.Signed.{attributes_named, as_set}
use Rattle.cms_signed.specs.Inside.{kept_by, attributes_seen, attributes_in}

attributes_text : (v : Item) (p : AttributesParts) (σ : State) → IsBytes v.content → read cms_checks attributes start (contents v) ≡ Ok (p, σ) → spell attributes p ≡ v.content
attributes_text v p σ fits e = sym (takes cms_checks attributes start (contents v) p σ fits e).spelled

abbrev after : Reading AttributesParts State CmsFault → Reading AttributesParts State CmsFault
after r = r >>= λ x. Ok (x.0, x.1)

pub attributes_found : (r : Result SignedAttributes CmsFault) (v : Item) (whole : List ℕ) → IsBytes v.content → whole ≡ value 0xa0 v.content
    → Finds (λ p σ. σ) kept_by r (read cms_checks attributes start (contents v)) → IfOk r (λ a. a.whole.now ≡ whole)
    → Finds attributes_named attributes_seen r (attributes_in start v)
attributes_found (Ok a) v whole fits is found same = record {
  parts = found.parts;
  state = found.state;
  is = ap after found.is;
  named =
      let text : encoded found.parts ≡ a.whole.now = ap (value 0xa0) (attributes_text v found.parts found.state fits found.is) ∙ sym is ∙ sym same in
      rw (text, found.named) refl;
}
attributes_found (Err e) v whole fits is found same = ap after found

-- under the tag of a SET OF
pub set_of : (content : List ℕ) → as_set (value 0xa0 content) ≡ value 0x31 content
unfolding value
set_of content = refl

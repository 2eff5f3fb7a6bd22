use Rattle.std.proofs.Common.{◌≡◌, ◌≢◌, ◌∙◌, ◌⊎◌, inl, inr, ℕ, ◌%◌, ap, arith, length}
use Rattle.der_values.specs.Value.{value}
use Rattle.der_values.proofs.Values.{value_length}
use Rattle.cms_signed.specs.Text.{IsSid}
use Rattle.cms_signed.proofs.Room.{short_has_text}
use Rattle.cms_signed.proofs.writing_tests.written.Goals as goal

low : (tag : ℕ) → (tag ≡ 0x30) ⊎ (tag ≡ 0x80) → tag % 32 ≢ 31
low tag (inl e) = rw e (λ h. omega arith)
low tag (inr e) = rw e (λ h. omega arith)

pub write_signed-requires : goal.write_signed-requires
write_signed-requires c =
    let id = c.args.id.now in
    let is : c.from_vec-2.result ≡ value c.args.tag id = c.from_vec-2.ensures ∙ (rw c.new-sid.ensures.items at c.in_ok-write_tlv.ensures.ok) in
    let sid : IsSid c.from_vec-2.result = record {
      tag = c.args.tag;
      content = id;
      spells = record { low_tag = low c.args.tag c.requires.tag; short = omega (arith, c.requires.short); is = is };
      known = c.requires.tag;
    } in
    let content = c.from_vec.ensures ∙ c.in_ok-from_slice.ensures.items in
    short_has_text _ c.args.signature.now sid (rw c.of.ensures (omega arith)) (rw c.of.ensures (omega arith)) (omega (arith, c.requires.short, ap length content, ap length is, value_length c.args.tag id))

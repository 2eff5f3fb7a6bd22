use Rattle.std.proofs.Common.{◌≡◌, ◌∙◌, [], ◌∷◌, ◌++◌, sym}
use Rattle.der_values.specs.Next.{seen}
use Rattle.der_values.specs.Shape.{tagged}
use Rattle.der_values.proofs.Loop.{one_more}
use Rattle.cms_signed.specs.declared.fault.CmsFault.TheVariants.{Der}
use Rattle.cms_signed.specs.Inside.{state_of, attribute_in, each_attribute}
use Rattle.cms_signed.proofs.attributes.all_attributes.Goals as goal

pub loop-reader-preserved : goal.loop-reader-preserved
loop-reader-preserved c =
    let e = c.in_ok-found.ensures in
    let i = c.loop-reader.invariant in
    let to : e.state ≡ state_of c.in_ok-found.found = e.named in
    rw (← to) (i.0 ++ tt ∷ [], one_more Der (tagged 0x30) attribute_in (each_attribute c.args.reader) (λ p. tt) i.0 (state_of c.loop-reader.found) c.loop-reader.reader (seen c.in_ok-expect.field-0) c.expect.new.self e.parts e.state (sym c.at_end.ensures ∙ c.loop-reader-test.true) c.in_ok-expect.ensures.shorter i.1 c.in_ok-expect.ensures.ok e.is)

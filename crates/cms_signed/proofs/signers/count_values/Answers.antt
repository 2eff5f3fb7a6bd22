use Rattle.std.proofs.Common.{◌≡◌, ◌∙◌, ℕ, List, [], ◌∷◌, ◌++◌, Ok, refl, sym, arith}
use Rattle.std.proofs.lemmas.List.{length_push}
use Rattle.der_values.specs.Next.{seen}
use Rattle.der_values.specs.Shape.{any_tag}
use Rattle.der_values.specs.Reading.{read}
use Rattle.der_values.proofs.Loop.{one_more, header_fails}
use Rattle.cms_signed.specs.Inside.{value_in, each_value}
use Rattle.cms_signed.proofs.signers.count_values.Goals as goal

pub loop-reader-preserved : goal.loop-reader-preserved
unfolding read
loop-reader-preserved c =
    let i = c.loop-reader.invariant in
    let v = c.in-Ok.field-0 in
    let p : ℕ × List ℕ = (v.tag, v.content.now) in
    let one : value_in tt (seen v) ≡ Ok (p, tt) = refl in
    let less = c.in-Ok.ensures.shorter in
    (i.0 ++ p ∷ [], one_more (λ e. e) any_tag value_in (each_value c.args.reader) (λ q. q) i.0 tt c.loop-reader.reader (seen v) c.next.new.self p tt (sym c.at_end.ensures ∙ c.loop-reader-test.true) less i.1 c.in-Ok.ensures.ok one, omega (arith, length_push i.0 p, i.2), omega (arith, less, i.3))

pub returns-in-Err : goal.returns-in-Err
returns-in-Err c =
    let i = c.loop-reader.invariant in
    header_fails (λ e. e) any_tag value_in (each_value c.args.reader) (λ q. q) i.0 tt c.loop-reader.reader c.in-Err.fault (sym c.at_end.ensures ∙ c.loop-reader-test.true) i.1 c.in-Err.ensures.fault

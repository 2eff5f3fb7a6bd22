use Rattle.std.proofs.Common.{◌≡◌, ◌∙◌, [], ◌∷◌, ◌++◌, Ok, sym, ap}
use Rattle.der_values.specs.Next.{seen}
use Rattle.der_values.specs.Shape.{tagged}
use Rattle.der_values.proofs.Loop.{one_more}
use Rattle.cms_signed.specs.declared.fault.CmsFault.TheVariants.{Der}
use Rattle.cms_signed.specs.State.{State, start}
use Rattle.cms_signed.specs.Inside.{algorithm_in, each_algorithm}
use Rattle.cms_signed.proofs.algorithms.all_algorithms.Goals as goal

pub loop-reader-preserved : goal.loop-reader-preserved
loop-reader-preserved c =
    let e = c.in_ok-algorithm.ensures in
    let i = c.loop-reader.invariant in
    let v = seen c.in_ok-expect.field-0 in
    let one : algorithm_in start v ≡ Ok (e.parts, start) = e.is ∙ ap (λ (σ : State). Ok (e.parts, σ)) e.named in
    (i.0 ++ tt ∷ [], one_more Der (tagged 0x30) algorithm_in (each_algorithm c.args.reader) (λ p. tt) i.0 start c.loop-reader.reader v c.expect.new.self e.parts start (sym c.at_end.ensures ∙ c.loop-reader-test.true) c.in_ok-expect.ensures.shorter i.1 c.in_ok-expect.ensures.ok one)

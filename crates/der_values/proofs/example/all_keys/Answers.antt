use Rattle.std.proofs.Common.{◌≡◌, ◌∙◌, [], ◌∷◌, ◌++◌, Ok, refl, sym, arith}
use Rattle.std.proofs.lemmas.List.{length_push}
use Rattle.der_values.specs.Next.{seen}
use Rattle.der_values.specs.Shape.{tagged}
use Rattle.der_values.specs.Reading.{read}
use Rattle.der_values.specs.Example.{der}
use Rattle.der_values.specs.Inside.{key_at, each_key}
use Rattle.der_values.proofs.Loop.{one_more}
use Rattle.der_values.proofs.example.all_keys.Goals as goal

pub loop-reader-preserved : goal.loop-reader-preserved
unfolding read
loop-reader-preserved c =
    let i = c.loop-reader.invariant in
    let t = c.in_ok-expect.field-0 in
    let read_one : key_at c.loop-reader.before.now (seen t) ≡ Ok (t.content.now, c.in_ok-before.before.now) = rw c.in_ok-before.ensures refl in
    let less = c.in_ok-expect.ensures.shorter in (
      i.0 ++ t.content.now ∷ [],
      one_more der (tagged 4) key_at (each_key c.args.reader) (λ key. key) i.0 c.loop-reader.before.now c.loop-reader.reader (seen t) c.expect.new.self t.content.now c.in_ok-before.before.now (sym c.at_end.ensures ∙ c.loop-reader-test.true) less i.1 c.in_ok-expect.ensures.ok read_one,
      omega (arith, length_push i.0 t.content.now, i.2),
      omega (arith, less, i.3),
    )

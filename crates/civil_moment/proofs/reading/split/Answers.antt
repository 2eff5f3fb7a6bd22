use Rattle.civil_moment.proofs.Shape.{before_last-is, tail_shape, fraction_behind}
use Rattle.civil_moment.proofs.reading.split.Goals as goal

pub returns-in_err-fraction-clause-shape : goal.returns-in_err-fraction-clause-shape
returns-in_err-fraction-clause-shape c =
    let cases = c.in_ok-last.ensures.cases in
    let body = before_last-is c.args.text.now c.in_ok-last.body.now _ cases.0 cases.1 in (
      λ some. let none = rw c.from_residual-in_err-fraction.ensures at some in cc,
      λ shape. let some = c.in_err-fraction.ensures.shape.1 (tail_shape c.args.text.now c.in_ok-last.body.now c.split_at.result.1.now body c.split_at.ensures.back shape) in cc,
    )

pub returns-then-are_digits-clause-fraction : goal.returns-then-are_digits-clause-fraction
returns-then-are_digits-clause-fraction c =
    let cases = c.in_ok-last.ensures.cases in
    let body = before_last-is c.args.text.now c.in_ok-last.body.now _ cases.0 cases.1 in
    fraction_behind c.args.text.now c.in_ok-last.body.now c.split_at.result.1.now c.in_ok-fraction.fraction.now body c.split_at.ensures.back c.in_ok-fraction.ensures.value

use Rattle.std.proofs.Common.{arith}
use Rattle.session_text.proofs.NumberLemmas.{number_more, below_more, fits, digit_at, numbered}
use Rattle.session_text.proofs.text.number_of.Goals as goal

pub overflow_mul-number : goal.overflow_mul-number
overflow_mul-number c =
    let word = numbered c.args.word.now c.requires in
    let short = word.short in
    let low = fits c.loop-digit.number c.loop-digit.digit-index c.loop-digit.invariant.1 (omega arith) in omega arith

pub overflow_add-number : goal.overflow_add-number
overflow_add-number c =
    let word = numbered c.args.word.now c.requires in
    let short = word.short in
    let low = fits c.loop-digit.number c.loop-digit.digit-index c.loop-digit.invariant.1 (omega arith) in
    let digit = digit_at c.args.word.now c.loop-digit.digit-index word.digits c.loop-digit-test.true in
    let most = digit.until in
    omega arith

pub loop-digit-preserved : goal.loop-digit-preserved
loop-digit-preserved c =
    let word = numbered c.args.word.now c.requires in
    let digit = digit_at c.args.word.now c.loop-digit.digit-index word.digits c.loop-digit-test.true in
    let from = digit.from in
    let most = digit.until in
    let more = number_more c.args.word.now c.loop-digit.digit-index c.loop-digit-test.true in
    (omega arith, below_more c.loop-digit.number c.loop-digit.digit-index _ c.loop-digit.invariant.1 (omega arith))

use Rattle.std.proofs.Common.{arith}
use Rattle.civil_moment.proofs.Digits.{digit_at, number_more, below_more, fits}
use Rattle.civil_moment.proofs.reading.number.Goals as goal

pub overflow_mul-number : goal.overflow_mul-number
overflow_mul-number c =
    let low = fits c.loop-byte.number c.loop-byte.byte-index c.loop-byte.invariant.1 (omega arith) in omega arith

pub overflow_add-number : goal.overflow_add-number
overflow_add-number c =
    let low = fits c.loop-byte.number c.loop-byte.byte-index c.loop-byte.invariant.1 (omega arith) in
    let digit = digit_at c.args.text.now c.loop-byte.byte-index c.requires.digits c.loop-byte-test.true in
    omega arith

pub loop-byte-preserved : goal.loop-byte-preserved
loop-byte-preserved c =
    let digit = digit_at c.args.text.now c.loop-byte.byte-index c.requires.digits c.loop-byte-test.true in
    let more = number_more c.args.text.now c.loop-byte.byte-index c.loop-byte-test.true in
    (omega arith, below_more c.loop-byte.number c.loop-byte.byte-index _ c.loop-byte.invariant.1 (omega arith))

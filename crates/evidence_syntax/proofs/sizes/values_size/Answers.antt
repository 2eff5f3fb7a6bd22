use Rattle.std.proofs.Common.{ℕ, List, arith, ap, length}
use Rattle.evidence_syntax.proofs.SizeLemmas.{more, all_too_long}
use Rattle.evidence_syntax.proofs.sizes.values_size.Goals as goal

pub returns-in_err-size : goal.returns-in_err-size
returns-in_err-size c =
    let x = c.value-item.result in
    all_too_long 4 (λ (v : List ℕ). v) c.args.values.now c.loop-value.value-index x c.loop-value.size c.in_ok-size_of.field-0 _ c.loop-value-test.true c.value-item.is
    c.loop-value.invariant.1 (omega (arith, c.in_ok-size_of.ensures, ap length c.bytes.ensures.bytes)) c.in_err-size.ensures c.from_residual-in_err-size.ensures

pub loop-value-preserved : goal.loop-value-preserved
loop-value-preserved c =
    let x = c.value-item.result in
    more 4 (λ (v : List ℕ). v) c.args.values.now c.loop-value.value-index x c.loop-value.size c.in_ok-size_of.field-0 _ c.loop-value-test.true c.value-item.is
    c.loop-value.invariant.1 (omega (arith, c.in_ok-size_of.ensures, ap length c.bytes.ensures.bytes)) c.in_ok-size.ensures

use Rattle.evidence_syntax.specs.Stamps.{stamp_seen}
use Rattle.evidence_syntax.specs.Text.{stamp_contents}
use Rattle.evidence_syntax.proofs.SizeLemmas.{more_seen, one_seen_too_long, all_seen_too_long}
use Rattle.evidence_syntax.proofs.sizes.stamps_size.Goals as goal

pub returns-in_err-stamp_size : goal.returns-in_err-stamp_size
returns-in_err-stamp_size c =
    let x = c.stamp-item.result in
    one_seen_too_long stamp_seen 48 stamp_contents c.args.stamps.now c.loop-stamp.stamp-index x _ c.loop-stamp-test.true c.stamp-item.is c.in_err-stamp_size.ensures c.from_residual.ensures

pub returns-in_err-size : goal.returns-in_err-size
returns-in_err-size c =
    let x = c.stamp-item.result in
    all_seen_too_long stamp_seen 48 stamp_contents c.args.stamps.now c.loop-stamp.stamp-index x c.loop-stamp.size c.in_ok-stamp_size.field-0 _ c.loop-stamp-test.true c.stamp-item.is
    c.loop-stamp.invariant.1 c.in_ok-stamp_size.ensures.1 c.in_err-size.ensures c.from_residual-in_err-size.ensures

pub loop-stamp-preserved : goal.loop-stamp-preserved
loop-stamp-preserved c =
    let x = c.stamp-item.result in
    more_seen stamp_seen 48 stamp_contents c.args.stamps.now c.loop-stamp.stamp-index x c.loop-stamp.size c.in_ok-stamp_size.field-0 _ c.loop-stamp-test.true c.stamp-item.is
    c.loop-stamp.invariant.1 c.in_ok-stamp_size.ensures.1 c.in_ok-size.ensures

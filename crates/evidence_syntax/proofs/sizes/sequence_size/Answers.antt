use Rattle.std.proofs.Common.{List}
use Rattle.std.specs.List.{flat_map}
use Rattle.evidence_syntax.specs.Stamps.{Stamp, chain_seen}
use Rattle.evidence_syntax.specs.Text.{stamp_text}
use Rattle.evidence_syntax.proofs.SizeLemmas.{more_seen, one_seen_too_long, all_seen_too_long}
use Rattle.evidence_syntax.proofs.sizes.sequence_size.Goals as goal

pub returns-in_err-stamps_size : goal.returns-in_err-stamps_size
returns-in_err-stamps_size c =
    let x = c.chain-item.result in
    one_seen_too_long chain_seen 48 (λ (stamps : List Stamp). flat_map stamp_text stamps) c.args.chains.now c.loop-chain.chain-index x _ c.loop-chain-test.true c.chain-item.is (rw c.as_slice.ensures at c.in_err-stamps_size.ensures) c.from_residual.ensures

pub returns-in_err-size : goal.returns-in_err-size
returns-in_err-size c =
    let x = c.chain-item.result in
    all_seen_too_long chain_seen 48 (λ (stamps : List Stamp). flat_map stamp_text stamps) c.args.chains.now c.loop-chain.chain-index x c.loop-chain.size c.in_ok-stamps_size.field-0 _ c.loop-chain-test.true c.chain-item.is
    c.loop-chain.invariant.1 (rw c.as_slice.ensures at c.in_ok-stamps_size.ensures.1) c.in_err-size.ensures c.from_residual-in_err-size.ensures

pub loop-chain-preserved : goal.loop-chain-preserved
loop-chain-preserved c =
    let x = c.chain-item.result in
    more_seen chain_seen 48 (λ (stamps : List Stamp). flat_map stamp_text stamps) c.args.chains.now c.loop-chain.chain-index x c.loop-chain.size c.in_ok-stamps_size.field-0 _ c.loop-chain-test.true c.chain-item.is
    c.loop-chain.invariant.1 (rw c.as_slice.ensures at c.in_ok-stamps_size.ensures.1) c.in_ok-size.ensures

use Rattle.std.proofs.Common.{rules, arith, ◌+◌, ◌-◌, ◌/◌, ◌<◌, ◌≤◌, length, slice_index_or}
use Rattle.archive_chain.proofs.Places.{stands, not_after, not_before}
use Rattle.archive_chain.proofs.sequence.search.Goals as goal

pub loop-high-init : goal.loop-high-init
loop-high-init c = let h = (stands c.args.ids.now c.args.id c.requires.member).within in (omega arith, h, omega arith)

pub loop-high-preserved-then-ids-middle : goal.loop-high-preserved-then-ids-middle
loop-high-preserved-then-ids-middle c =
    let low = c.loop-high.invariant.0 in let high = c.loop-high.invariant.1 in let end = c.loop-high.invariant.2 in
    let within : c.loop-high.low + (c.loop-high.high - c.loop-high.low) / 2 < length c.args.ids.now = search rules in
    let le : slice_index_or c.args.ids.now (c.loop-high.low + (c.loop-high.high - c.loop-high.low) / 2) 0 ≤ c.args.id = search rules in
    (not_after c.args.ids.now c.args.id (c.loop-high.low + (c.loop-high.high - c.loop-high.low) / 2) c.requires.rising c.requires.member within le, high, end)

pub loop-high-preserved : goal.loop-high-preserved
loop-high-preserved c =
    let low = c.loop-high.invariant.0 in let high = c.loop-high.invariant.1 in let end = c.loop-high.invariant.2 in
    let within : c.loop-high.low + (c.loop-high.high - c.loop-high.low) / 2 < length c.args.ids.now = search rules in
    let less : c.args.id < slice_index_or c.args.ids.now (c.loop-high.low + (c.loop-high.high - c.loop-high.low) / 2) 0 = search rules in
    (low, not_before c.args.ids.now c.args.id (c.loop-high.low + (c.loop-high.high - c.loop-high.low) / 2) c.requires.rising c.requires.member within less, omega (arith, within))

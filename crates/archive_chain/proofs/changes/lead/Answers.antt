use Rattle.std.proofs.Common.{rules}
use Rattle.archive_chain.proofs.Changing.{led_one}
use Rattle.archive_chain.proofs.changes.lead.Goals as goal

pub loop-place-preserved : goal.loop-place-preserved
loop-place-preserved c =
    let one = led_one c.args.next c.in-Some.place c.loop-place.places.items c.pop.new.self.items c.loop-place.rows.items _ c.index_mut.result.now c.in-Some.ensures.items c.loop-place.invariant.0 c.loop-place.invariant.1 (search rules) in
    (one.0, one.1, c.loop-place.invariant.2, c.loop-place.invariant.3)

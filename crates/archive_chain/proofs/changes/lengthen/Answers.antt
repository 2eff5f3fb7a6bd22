use Rattle.std.proofs.Common.{rules}
use Rattle.archive_chain.proofs.Changing.{lengthened_one}
use Rattle.archive_chain.proofs.changes.lengthen.Goals as goal

pub loop-l-preserved : goal.loop-l-preserved
loop-l-preserved c =
    let one = lengthened_one c.in-Some.l c.loop-l.longer.items c.pop.new.self.items c.loop-l.rows.items _ c.index_mut-row.result.now c.in-Some.ensures.items c.loop-l.invariant.0 c.loop-l.invariant.1 (search rules) in
    (one.0, one.1, c.loop-l.invariant.2, c.loop-l.invariant.3)

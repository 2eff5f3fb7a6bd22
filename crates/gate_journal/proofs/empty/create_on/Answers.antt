use Rattle.ev_world.proofs.Writes.{behind_reads}
use Rattle.gate_journal.proofs.empty.create_on.Goals as goal

pub returns-in_err-write_empty-clause-any_moment : goal.returns-in_err-write_empty-clause-any_moment
returns-in_err-write_empty-clause-any_moment g c tells =
    let d = g.D.Disk in
    behind_reads d.clock d.since d.images c.args.disk.now c.is_occupied.new.disk _ 17 d.reads (c.is_occupied.ensures.quiet tells) (c.write_empty.ensures.any_moment tells)

pub returns-clause-any_moment : goal.returns-clause-any_moment
returns-clause-any_moment g c tells =
    let d = g.D.Disk in
    behind_reads d.clock d.since d.images c.args.disk.now c.is_occupied.new.disk _ 17 d.reads (c.is_occupied.ensures.quiet tells) (c.write_empty.ensures.any_moment tells)

use Rattle.ev_world.proofs.Moments.{weakly}
use Rattle.gate_journal.proofs.Crashes.{header_closed}
use Rattle.gate_journal.proofs.empty.write_header.Goals as goal

pub returns-clause-still_closed : goal.returns-clause-still_closed
returns-clause-still_closed g c tells =
    let d = g.D.Disk in
    weakly d.clock d.since c.args.disk.now c.write_synced.new.disk _ _ (c.write_synced.ensures.within tells).any_moment (header_closed (d.images c.args.disk.now) (c.requires tells))

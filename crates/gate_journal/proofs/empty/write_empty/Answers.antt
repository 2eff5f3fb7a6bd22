use Rattle.std.proofs.Common.{arith}
use Rattle.ev_world.proofs.Writes.{over_first}
use Rattle.gate_journal.proofs.Crashes.{zeros_closed}
use Rattle.gate_journal.proofs.empty.write_empty.Goals as goal

pub write_header-requires : goal.write_header-requires
write_header-requires g c tells = zeros_closed _ _ _ (c.in_ok-write_synced.ensures.on_disk tells).written (c.in_ok-write_synced.ensures.on_disk tells).durable

pub returns-in_err-write_header-clause-any_moment : goal.returns-in_err-write_header-clause-any_moment
returns-in_err-write_header-clause-any_moment g c tells =
    let d = g.D.Disk in
    over_first d.clock d.since d.images c.args.disk.now c.write_synced.new.disk _ 17 16 (omega arith) (c.write_synced.ensures.within tells).any_moment (c.write_synced.ensures.within tells).crash (c.write_header.ensures.within tells).any_moment

pub returns-clause-any_moment : goal.returns-clause-any_moment
returns-clause-any_moment g c tells =
    let d = g.D.Disk in
    over_first d.clock d.since d.images c.args.disk.now c.write_synced.new.disk _ 17 16 (omega arith) (c.write_synced.ensures.within tells).any_moment (c.write_synced.ensures.within tells).crash (c.write_header.ensures.within tells).any_moment

use Rattle.std.proofs.Common.{rules}
use Rattle.ev_devices.proofs.DiskCalls.{written_disk}
use Rattle.ev_devices.proofs.disk.MemDisk.keep.Goals as goal

pub invariant_of-self-2 : goal.invariant_of-self-2
invariant_of-self-2 c =
    written_disk _ _ _ _ _ c.args.place c.args.bytes.now c.self.invariant c.in_ok-write.ensures.ok (search rules)

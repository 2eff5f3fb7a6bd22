use Rattle.ev_devices.proofs.DiskCalls.{synced_disk}
use Rattle.ev_devices.proofs.disk.MemDisk.settle.Goals as goal

pub invariant_of-self : goal.invariant_of-self
invariant_of-self c = synced_disk _ _ _ _ c.self.invariant c.sync_now.ensures

use Rattle.std.proofs.Common.{ap, sym, ◌∙◌}
use Rattle.ev_devices.specs.Disk.{DiskDevice, reads_of}
use Rattle.ev_devices.specs.Writes.{replay}
use Rattle.ev_devices.proofs.WriteLemmas.{all_made}
use Rattle.ev_devices.proofs.disk.MemDisk.bytes.Goals as goal

pub returns : goal.returns
returns c =
    c.bytes.ensures ∙ c.self.invariant.bytes_are
    ∙ sym (ap (replay c.self.inside.content.first) (all_made c.self.inside.writes.items c.self.inside.calls.number c.self.invariant.came))
    ∙ ap (λ (d : DiskDevice). reads_of d) c.self.view_is

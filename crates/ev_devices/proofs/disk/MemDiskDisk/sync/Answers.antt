use Rattle.std.proofs.Common.{List, ℕ, ◌≡◌, sym, ◌∙◌, ap, subst}
use Rattle.ev_world.specs.Disk.{Only, Elapses}
use Rattle.ev_devices.specs.Disk.{DiskDevice, reads_of, images_of, since_of, disk_synced}
use Rattle.ev_devices.specs.Writes.{sync_last}
use Rattle.ev_devices.proofs.DiskCalls.{synced_same, synced_durable, synced_crash, synced_time}
use Rattle.ev_devices.proofs.disk.MemDiskDisk.sync.Goals as goal

-- the disk after the sync
synced : (c : goal.After-settle) → c.settle.new.self ≡ disk_synced c.args.self.now
synced c = c.settle.ensures ∙ ap (λ (d : DiskDevice). record d { writes = sync_last d.calls d.writes }) c.in_ok-ask.ensures.ok

pub returns-clause-same : goal.returns-clause-same
returns-clause-same c = ap (λ (d : DiskDevice). reads_of d) (synced c) ∙ synced_same c.args.self.now c.ask.ensures.made c.in_ok-ask.ensures.counting

pub returns-clause-durable : goal.returns-clause-durable
returns-clause-durable c =
    subst (λ (d : DiskDevice). Only (reads_of c.args.self.now) (images_of d)) (sym (synced c)) (synced_durable c.args.self.now c.ask.ensures.made c.in_ok-ask.ensures.counting)

pub returns-clause-crash : goal.returns-clause-crash
returns-clause-crash c =
    subst (λ (d : DiskDevice). (f : List ℕ) → images_of d f → images_of c.args.self.now f) (sym (synced c))
    (synced_crash c.args.self.now c.ask.ensures.made c.in_ok-ask.ensures.counting)

pub returns-clause-time : goal.returns-clause-time
returns-clause-time c =
    subst (λ (d : DiskDevice). Elapses c.args.self.now.calls d.calls (since_of c.args.self.now) (since_of d) (images_of d)) (sym (synced c))
    (synced_time c.args.self.now c.ask.ensures.made c.in_ok-ask.ensures.counting)

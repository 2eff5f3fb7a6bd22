use Rattle.std.proofs.Common.{◌≡◌, ◌++◌, ◌∷◌, [], None, length, sym, ◌∙◌, ap, subst}
use Rattle.ev_world.specs.Disk.{Torn, Follows, Elapses}
use Rattle.ev_devices.specs.Disk.{DiskDevice, reads_of, images_of, since_of, disk_written}
use Rattle.ev_devices.proofs.DiskCalls.{written_reads, written_torn, written_crash, written_time}
use Rattle.ev_devices.proofs.disk.MemDiskDisk.write_at.Goals as goal

-- the disk after the write
written : (c : goal.In-Ok) → c.keep.new.self ≡ disk_written c.args.self.now c.args.place c.args.bytes.now
written c = c.in-Ok.ensures.ok
    ∙ ap (λ (d : DiskDevice). record d { writes = d.writes ++ record { place = c.args.place; bytes = c.args.bytes.now; moment = d.calls; synced = None } ∷ [] }) c.in_ok-ask.ensures.ok

pub returns-in-Ok-clause-written : goal.returns-in-Ok-clause-written
returns-in-Ok-clause-written c = record {
  is = ap (λ (d : DiskDevice). reads_of d) (written c) ∙ written_reads c.args.self.now c.ask.ensures.made c.in_ok-ask.ensures.counting c.args.place c.args.bytes.now;
}

pub returns-in-Ok-clause-torn : goal.returns-in-Ok-clause-torn
returns-in-Ok-clause-torn c =
    subst (λ (d : DiskDevice). Torn c.args.place (length c.args.bytes.now) (reads_of c.args.self.now) (reads_of d)) (sym (written c))
    (written_torn c.args.self.now c.ask.ensures.made c.in_ok-ask.ensures.counting c.args.place c.args.bytes.now)

pub returns-in-Ok-clause-crash : goal.returns-in-Ok-clause-crash
returns-in-Ok-clause-crash c =
    subst (λ (d : DiskDevice). Follows (Torn c.args.place (length c.args.bytes.now)) (images_of c.args.self.now) (images_of d)) (sym (written c))
    (written_crash c.args.self.now c.ask.ensures.made c.in_ok-ask.ensures.counting c.args.place c.args.bytes.now)

pub returns-in-Ok-clause-time : goal.returns-in-Ok-clause-time
returns-in-Ok-clause-time c =
    subst (λ (d : DiskDevice). Elapses c.args.self.now.calls d.calls (since_of c.args.self.now) (since_of d) (images_of d)) (sym (written c))
    (written_time c.args.self.now c.ask.ensures.made c.in_ok-ask.ensures.counting c.args.place c.args.bytes.now)

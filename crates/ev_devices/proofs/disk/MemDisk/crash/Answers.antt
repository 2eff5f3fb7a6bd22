use Rattle.std.proofs.Common.{List, ℕ, ap, ◌∙◌, subst}
use Rattle.ev_devices.specs.Disk.{DiskDevice, images_of, reads_of}
use Rattle.ev_devices.specs.Writes.{left_by}
use Rattle.ev_devices.proofs.CrashLemmas.{crash_image}
use Rattle.ev_devices.proofs.disk.MemDisk.crash.Goals as goal

pub returns-clause-image : goal.returns-clause-image
returns-clause-image c =
    subst (λ (d : DiskDevice). images_of d (reads_of c.new-2.result)) c.self.view_is
    (crash_image _ _ _ _ c.args.how c.self.invariant.came
    (ap (λ (d : DiskDevice). reads_of d) c.new-2.ensures ∙ c.from_vec.ensures ∙ c.in_ok-bytes.ensures
    ∙ ap (λ (first : List ℕ). left_by c.args.how first c.deref.result.now) c.into_first.ensures
    ∙ ap (left_by c.args.how c.self.inside.content.first) c.deref.ensures.value))

use Rattle.std.proofs.Common.{◌≡◌, drop}
use Rattle.ev_devices.specs.Writes.{touch_all}
use Rattle.ev_devices.proofs.crash.touch_each.Given as goal

abbrev pub invariant-loop-write : goal.invariant-loop-write
invariant-loop-write l = touch_all l.how l.bytes.items (drop l.write-index l.writes) ≡ touch_all l.fn.how l.fn.bytes.items l.fn.writes

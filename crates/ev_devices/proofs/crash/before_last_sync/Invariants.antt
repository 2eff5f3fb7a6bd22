use Rattle.std.proofs.Common.{◌≡◌, ◌≤◌, drop}
use Rattle.ev_devices.specs.Writes.{before_sync}
use Rattle.ev_devices.proofs.CrashLemmas.{counted_on}
use Rattle.ev_devices.proofs.crash.before_last_sync.Given as goal

abbrev pub invariant-loop-write : goal.invariant-loop-write
invariant-loop-write l = (l.made ≡ l.write-index) × (l.count ≤ l.made) × (counted_on l.count l.made (drop l.write-index l.writes) ≡ before_sync l.fn.writes)

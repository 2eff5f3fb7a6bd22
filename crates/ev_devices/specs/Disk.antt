-- A disk in memory, and its calls.
use Rattle.std.specs.Prelude.{◌⊎◌, ℕ, ◌-◌, ◌^◌, ◌≤◌, List, [], ◌∷◌, ◌++◌, Contains, None}
use Rattle.ev_devices.specs.Devices.{counted}
use Rattle.ev_devices.specs.Writes.{replay, Images, made_at, sync_last}
use Rattle.ev_devices.specs.declared.written.Written.{Written}

-- The bytes that it began with, all of them on it; what was written since; the numbers of the calls that fail, and the number
-- from which on each call fails; how many calls there were, and how many have failed.
pub record DiskDevice : Type 0 where
  pub first : List ℕ
  pub writes : List Written
  pub failing : List ℕ
  pub stop_after : ℕ
  pub calls : ℕ
  pub faults : ℕ

-- its next call is one that fails
abbrev pub Fails : DiskDevice → Type 0
Fails d = Contains d.failing d.calls ⊎ (d.stop_after ≤ d.calls)

-- ---- what it tells

-- what had been written by now
abbrev pub writes_of : DiskDevice → List Written
writes_of d = made_at d.calls d.writes

-- what a read gives
abbrev pub reads_of : DiskDevice → List ℕ
reads_of d = replay d.first (writes_of d)

-- what a crash now may leave
abbrev pub images_of : DiskDevice → List ℕ → Type 0
images_of d = Images d.first (writes_of d)

-- at a moment since t, one that has come
abbrev pub since_of : DiskDevice → ℕ → List ℕ → Type 0
since_of d t c = (moment : ℕ) × (t ≤ moment) × (moment ≤ d.calls) × Images d.first (made_at moment d.writes) c

-- ---- its calls

-- after a call that failed, and after one that did not and wrote nothing
abbrev pub disk_failed : DiskDevice → DiskDevice
disk_failed d = record d { calls = counted d.calls; faults = counted d.faults }

-- after a call that did not fail and wrote nothing
abbrev pub disk_asked : DiskDevice → DiskDevice
disk_asked d = record d { calls = counted d.calls }

-- after a write, and after a sync
abbrev pub disk_written : DiskDevice → ℕ → List ℕ → DiskDevice
disk_written d place bytes = record d {
  writes = d.writes ++ record { place = place; bytes = bytes; moment = counted d.calls; synced = None } ∷ [];
  calls = counted d.calls;
}

-- after a sync
abbrev pub disk_synced : DiskDevice → DiskDevice
disk_synced d = record d { writes = sync_last (counted d.calls) d.writes; calls = counted d.calls }

-- a disk with these bytes, all of them on it, that nobody has asked yet and that never fails
abbrev pub restarted : List ℕ → DiskDevice
restarted bytes = record { first = bytes; writes = []; failing = []; stop_after = 2 ^ 64 - 1; calls = 0; faults = 0 }

-- What each command does.
use Rattle.std.specs.Prelude.{◌≡◌, ◌⊎◌, ℕ, ◌≤◌, Bool, IsTrue, List, [], ◌∷◌, ◌++◌, drop}
use Rattle.civil_moment.specs.declared.moment.Moment.{Moment}
use Rattle.ev_world.specs.Causes.{Rose}
use Rattle.ev_world.specs.Disk.{Torn, After, IsQuiet, LeavesOnly}
use Rattle.gate_journal.specs.Journal.{header, IsOccupied}
use Rattle.archive_store.specs.Images.{ReadsHistory}
use Rattle.evidence_tool.specs.Input.{TakesAtMost}
use Rattle.evidence_tool.specs.Run.{Devices, Run, IsLeftAlone}
use Rattle.evidence_tool.specs.Served.{Ends, ends_by, IsServed}
use Rattle.evidence_tool.specs.Trial.{trial_policy, IsWritten}
use Rattle.evidence_tool.specs.Verifying.{IsVerified}

-- How `create` ended, by the status: an empty journal was made, what stood behind its first 17 bytes stays (0); the disk
-- failed (5); a journal with an entry was there, and is as it was (6).
pub record IsCreated {J : Type 0} (tells : Bool) (reads : J → List ℕ) (images : J → List ℕ → Type 0) (clock : J → ℕ) (since : J → ℕ → List ℕ → Type 0)
    (faults : J → ℕ) (old : J) (status : ℕ) (new : J) : Type 0 where
  pub statuses : (status ≡ 0) ⊎ ((status ≡ 5) ⊎ (status ≡ 6))
  pub made : status ≡ 0 → IsTrue tells → ReadsHistory (reads new) []
  pub bytes : status ≡ 0 → IsTrue tells → reads new ≡ header ++ 0 ∷ drop 17 (reads old)
  pub free : status ≡ 0 → IsTrue tells → ¬ IsOccupied (reads old)
  pub failed : status ≡ 5 → Rose (faults old) (faults new)
  pub occupied : status ≡ 6 → IsTrue tells → IsOccupied (reads old)
  pub kept : status ≡ 6 → IsTrue tells → reads new ≡ reads old
  pub later : faults old ≤ faults new
  -- what a crash leaves: then, an empty journal; at any moment, what stood behind the first 17 bytes; nothing new where a
  -- journal with an entry was there, whatever the status
  pub each : status ≡ 0 → IsTrue tells → (c : List ℕ) → images new c → ReadsHistory c []
  pub any_moment : IsTrue tells → LeavesOnly clock since old new (After (Torn 0 17) (images old))
  pub untouched : IsTrue tells → IsOccupied (reads old) → IsQuiet reads images clock since old new

-- `create` makes an empty journal.
pub record Creates {S K J A : Type 0} (d : Devices S K J) (r : Run S K J A) : Type 0 where
  pub created : IsCreated d.tells d.reads d.images d.clock d.since d.disk_faults r.disk.before r.status r.disk.after
  pub source : IsLeftAlone r.source
  pub sink : IsLeftAlone r.sink
  pub authority : IsLeftAlone r.authority

-- the ends of a run of `serve`, as far as the devices tell them
abbrev pub ends_of : {S K J A : Type 0} → Devices S K J → Run S K J A → Ends K J
ends_of d r = ends_by d.taken d.sink_faults d.tells d.reads d.images d.clock d.since d.disk_faults
    r.sink.before r.sink.after r.disk.before r.disk.after

-- `serve` reads requests to the end of the source, and answers them one by one.
pub record Serves {S K J A : Type 0} (d : Devices S K J) (r : Run S K J A) : Type 0 where
  pub served : IsServed (d.left r.source.before) (d.left r.source.after) (d.source_faults r.source.before) (d.source_faults r.source.after) (ends_of d r) r.status
  pub bounded : TakesAtMost 67108865 (d.left r.source.before) (d.left r.source.after)
  pub authority : IsLeftAlone r.authority

-- `verify` reads a verification to the end of the source, and writes the line of the verdict on its record.
pub record Judges {S K J A : Type 0} (d : Devices S K J) (r : Run S K J A) : Type 0 where
  pub verified : IsVerified (d.left r.source.before) (d.left r.source.after) (d.source_faults r.source.before) (d.source_faults r.source.after)
      (d.taken r.sink.before) (d.taken r.sink.after) (d.sink_faults r.sink.before) (d.sink_faults r.sink.after) r.status
  pub bounded : TakesAtMost 67108865 (d.left r.source.before) (d.left r.source.after)
  pub disk : IsLeftAlone r.disk
  pub authority : IsLeftAlone r.authority

-- `trial` writes the policy that names the trial authority, with these ends of the hash algorithms and of its key.
pub record WritesTrial {S K J A : Type 0} (hash_end key_end : Moment) (d : Devices S K J) (r : Run S K J A) : Type 0 where
  pub written : IsWritten (trial_policy hash_end key_end) (d.taken r.sink.before) (d.taken r.sink.after) (d.sink_faults r.sink.before) (d.sink_faults r.sink.after) r.status
  pub source : IsLeftAlone r.source
  pub disk : IsLeftAlone r.disk
  pub authority : IsLeftAlone r.authority

-- The words name no command: nothing is done, and the status is 2.
pub record DoesNothing {S K J A : Type 0} (r : Run S K J A) : Type 0 where
  pub status : r.status ≡ 2
  pub source : IsLeftAlone r.source
  pub sink : IsLeftAlone r.sink
  pub disk : IsLeftAlone r.disk
  pub authority : IsLeftAlone r.authority

-- What a disk in memory was asked to write, what a read gives after it, and what a crash leaves of it.
use Rattle.std.specs.Prelude.{◌≡◌, ℕ, suc, List, [], ◌∷◌, length, take, drop, replicate, Some, None, nat_lt, nat_eq, if◌then◌else◌}
use Rattle.std.specs.declared.option.Option.{Option}
use Rattle.ev_world.specs.Disk.{put, Torn, After}
use Rattle.ev_devices.specs.declared.written.Written.{Written}
use Rattle.ev_devices.specs.declared.crash.Crash.{Crash}
use Rattle.ev_devices.specs.declared.crash.Crash.TheVariants.{Old, New, Torn as Filled}

-- ---- what a read gives

-- the bytes after these writes
abbrev pub replay : List ℕ → List Written → List ℕ
replay b [] = b
replay b (w ∷ ws) = replay (put b w.place w.bytes) ws

-- ---- what a crash may leave

-- after a sync these bytes and nothing else
abbrev pub once_synced : Option ℕ → List ℕ → (List ℕ → Type 0) → List ℕ → Type 0
once_synced None b images = images
once_synced (Some moment) b images = λ c. c ≡ b

-- from bytes b, of which a crash leaves one of these images
abbrev pub Leaves : List ℕ → (List ℕ → Type 0) → List Written → List ℕ → Type 0
Leaves b images [] = images
Leaves b images (w ∷ ws) =
    let next = put b w.place w.bytes in
    Leaves next (once_synced w.synced next (After (Torn w.place (length w.bytes)) images)) ws

-- from bytes that are all on the disk
abbrev pub Images : List ℕ → List Written → List ℕ → Type 0
Images first ws = Leaves first (λ c. c ≡ first) ws

-- ---- moments

-- the sync of a write, where it had been made at this moment
abbrev pub known_at : ℕ → Option ℕ → Option ℕ
known_at moment None = None
known_at moment (Some s) = if nat_lt moment s then None else Some s

-- the writes, and their syncs, that had been made at a moment
abbrev pub made_at : ℕ → List Written → List Written
made_at moment [] = []
made_at moment (w ∷ ws) = if nat_lt moment w.moment then [] else (record w { synced = known_at moment w.synced } ∷ made_at moment ws)

-- ---- one call more

-- the moment of the first sync after a write
abbrev pub first_sync : Option ℕ → ℕ → Option ℕ
first_sync None moment = Some moment
first_sync (Some s) moment = Some s

-- a sync comes after the last write
abbrev pub sync_last : ℕ → List Written → List Written
sync_last moment [] = []
sync_last moment (w ∷ []) = record w { synced = first_sync w.synced moment } ∷ []
sync_last moment (w ∷ v ∷ ws) = w ∷ sync_last moment (v ∷ ws)

-- ---- a restart after a crash

-- 1 for a write that is synced, else 0
abbrev pub is_synced : Option ℕ → ℕ
is_synced None = 0
is_synced (Some moment) = 1

-- how many of the writes came before the last sync
abbrev pub before_sync : List Written → ℕ
before_sync [] = 0
before_sync (w ∷ ws) = if nat_eq (before_sync ws) 0 then is_synced w.synced else suc (before_sync ws)

-- what a crash makes of one write that isn't synced: nothing, all of it, or its range filled with one byte
abbrev pub touched : Crash → List ℕ → Written → List ℕ
touched Old b w = b
touched New b w = put b w.place w.bytes
touched (Filled byte) b w = put b w.place (replicate (length w.bytes) byte)

-- what it makes of writes that aren't synced, one after another
abbrev pub touch_all : Crash → List ℕ → List Written → List ℕ
touch_all how b [] = b
touch_all how b (w ∷ ws) = touch_all how (touched how b w) ws

-- The bytes after a crash: what was synced, and then the later writes, each as the crash makes it.
abbrev pub left_by : Crash → List ℕ → List Written → List ℕ
left_by how first ws = touch_all how (touch_all New first (take (before_sync ws) ws)) (drop (before_sync ws) ws)

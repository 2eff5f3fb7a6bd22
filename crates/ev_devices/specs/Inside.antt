-- What every disk in memory keeps.
use Rattle.std.specs.Prelude.{◌≡◌, ℕ, ◌≤◌, ◌^◌, ◌<◌, ⊤, Bool, true, false, List, [], ◌∷◌, IfSome}
use Rattle.ev_world.specs.Disk.{Torn, Follows, Elapses}
use Rattle.ev_devices.specs.Disk.{DiskDevice, reads_of, images_of, since_of}
use Rattle.ev_devices.specs.Writes.{replay}
use Rattle.ev_devices.specs.declared.written.Written.{Written}

-- each write, and each sync, came by this moment
abbrev pub Came : ℕ → List Written → Type 0
Came now [] = ⊤
Came now (w ∷ ws) = (w.moment ≤ now) × IfSome w.synced (λ s. s ≤ now) × Came now ws

-- the bytes that a disk began with, and those of now
pub record Bytes : Type 0 where
  pub first : List ℕ
  pub now : List ℕ

-- until the first write the bytes are not copied
abbrev pub current : Bool → List ℕ → List ℕ → List ℕ
current true first bytes = bytes
current false first bytes = first

pub record IsDisk (content : Bytes) (writes : List Written) (calls : ℕ) : Type 0 where
  pub bytes_are : content.now ≡ replay content.first writes
  pub came : Came calls writes
  pub few : calls < 2 ^ 64

-- each write and each sync of a disk came by now
pub record IsMade (d : DiskDevice) : Type 0 where
  pub came : Came d.calls d.writes
  pub few : d.calls < 2 ^ 64

-- a call that has written nothing, in the words of the trait
pub record WritesNothing (old new : DiskDevice) : Type 0 where
  pub same : reads_of new ≡ reads_of old
  pub no_more : (c : List ℕ) → images_of new c → images_of old c
  pub time : Elapses old.calls new.calls (since_of old) (since_of new) (images_of new)
  pub torn : (place n : ℕ) → Torn place n (reads_of old) (reads_of new)
  pub follows : (place n : ℕ) → Follows (Torn place n) (images_of old) (images_of new)

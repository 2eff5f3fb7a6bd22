-- What a write does to the bytes of a disk, and what a crash may leave of them.
use Rattle.std.specs.Prelude.{◌≡◌, ◌⊎◌, ℕ, ◌+◌, ◌-◌, ◌^◌, ◌≤◌, min, max, Bool, IsTrue, List, ◌++◌, length, take, drop}

-- old with these bytes at this place
abbrev pub put : List ℕ → ℕ → List ℕ → List ℕ
put old at bytes = take at old ++ bytes ++ drop (at + length bytes) old

-- new is old with these bytes at this place
pub record Holds (old : List ℕ) (at : ℕ) (bytes new : List ℕ) : Type 0 where
  pub is : new ≡ take at old ++ bytes ++ drop (at + length bytes) old

-- After a write of n bytes that may have been cut short: any bytes in the range and past the old end,
-- the same elsewhere, and any length from the old one to the end of the write.
pub record Torn (at n : ℕ) (old new : List ℕ) : Type 0 where
  pub before : take (min at (length old)) new ≡ take at old
  pub after : drop (at + n) new ≡ drop (at + n) old
  pub no_shorter : length old ≤ length new
  pub no_longer : length new ≤ max (length old) (at + n)

-- ---- crashes: an image is a list of bytes that a crash may leave

-- an old image after a step
abbrev pub After : (List ℕ → List ℕ → Type 0) → (List ℕ → Type 0) → List ℕ → Type 0
After step old c = (d : List ℕ) × old d × step d c

-- each new image is an old image after a step
abbrev pub Follows : (List ℕ → List ℕ → Type 0) → (List ℕ → Type 0) → (List ℕ → Type 0) → Type 0
Follows step old new = (c : List ℕ) → new c → After step old c

-- a crash leaves these bytes and nothing else
abbrev pub Only : List ℕ → (List ℕ → Type 0) → Type 0
Only bytes images = (c : List ℕ) → images c → c ≡ bytes

-- ---- time: a clock counts the calls, up to the end of a `u64`

-- One call later. An image since a moment t that had come is one that there was since t before, or one of now.
pub record Elapses (before now : ℕ) (past since : ℕ → List ℕ → Type 0) (images : List ℕ → Type 0) : Type 0 where
  pub counts : now ≡ max before (min (before + 1) (2 ^ 64 - 1))
  pub nothing_else : (t : ℕ) (c : List ℕ) → t ≤ before → since t c → past t c ⊎ images c
  pub keeps : (t : ℕ) (c : List ℕ) → t ≤ before → past t c → since t c

-- Each image since old has P: a crash at any moment of a call, or between two, leaves bytes with P.
pub record LeavesOnly {D : Type 0} (clock : D → ℕ) (since : D → ℕ → List ℕ → Type 0) (old new : D) (P : List ℕ → Type 0) : Type 0 where
  pub later : clock old ≤ clock new
  pub each : (c : List ℕ) → since new (clock old) c → P c
  -- for a run that began earlier
  pub before : (t : ℕ) (c : List ℕ) → t ≤ clock old → since new t c → since old t c ⊎ P c

-- Nothing was written: a read gives the same, and no crash leaves what one might not have left before.
pub record IsQuiet {D : Type 0} (reads : D → List ℕ) (images : D → List ℕ → Type 0) (clock : D → ℕ) (since : D → ℕ → List ℕ → Type 0) (old new : D) : Type 0 where
  pub same : reads new ≡ reads old
  pub no_more : (c : List ℕ) → images new c → images old c
  pub run : LeavesOnly clock since old new (images old)

-- Reads alone came between: where the disk tells its bytes, nothing was written.
pub record OnlyReads {D : Type 0} (tells : Bool) (reads : D → List ℕ) (images : D → List ℕ → Type 0) (clock : D → ℕ) (since : D → ℕ → List ℕ → Type 0) (faults : D → ℕ) (old new : D) : Type 0 where
  pub quiet : IsTrue tells → IsQuiet reads images clock since old new
  pub later : faults old ≤ faults new

-- ---- a write that is synced

-- These bytes were written at this place and are on the disk: a crash leaves what a read gives.
pub record IsOnDisk {D : Type 0} (reads : D → List ℕ) (images : D → List ℕ → Type 0) (old new : D) (at : ℕ) (bytes : List ℕ) : Type 0 where
  pub written : Holds (reads old) at bytes (reads new)
  pub durable : Only (reads new) (images new)

-- Nothing was written but n bytes at this place: in what a read gives, in what a crash now leaves, and in what one at any moment of
-- the call might have left.
pub record WritesOnly {D : Type 0} (reads : D → List ℕ) (images : D → List ℕ → Type 0) (clock : D → ℕ) (since : D → ℕ → List ℕ → Type 0) (old new : D) (at n : ℕ) : Type 0 where
  pub torn : Torn at n (reads old) (reads new)
  pub crash : Follows (Torn at n) (images old) (images new)
  pub any_moment : LeavesOnly clock since old new (After (Torn at n) (images old))

-- What private functions say of each other.
use Rattle.std.specs.Prelude.{◌≡◌, ◌⊎◌, ℕ, ◌+◌, ◌<◌, ◌≤◌, Bool, true, false, IsTrue, List, length, Some}
use Rattle.std.specs.declared.option.Option.{Option}
use Rattle.civil_moment.specs.declared.moment.Moment.{Moment}
use Rattle.hash_kit.specs.declared.algorithm.HashAlg.{HashAlg}
use Rattle.key_state.specs.declared.fault.StateFault.{StateFault}
use Rattle.key_state.specs.declared.fault.StateFault.TheVariants.{DiskFault, NotFormatted, WrongLength, Exhausted, Broken, Memory}
use Rattle.key_state.specs.View.{IsState}
use Rattle.tst_info.specs.Request.{ToStamp}
use Rattle.trial_authority.specs.Key.{leaves}
use Rattle.trial_authority.specs.Reply.{Asks, Grants, rejection}
use Rattle.trial_authority.specs.Stamping.{Opened, IsMisfit, Refuses}
use Rattle.trial_authority.specs.declared.indexes.Indexes.{Indexes}
use Rattle.trial_authority.specs.declared.indexes.Indexes.TheVariants.{Unopened, Open}

-- ---- the state

-- an open state is the one of the disk, of 1,024 indexes
abbrev pub IsHeld : {D : Type 0} → Bool → (D → List ℕ) → (D → List ℕ → Type 0) → Indexes D → Type 0
IsHeld tells reads images (Unopened disk) = Unit {0}
IsHeld tells reads images (Open k) = (k.leaves ≡ leaves) × (IsTrue tells → IsState (reads k.disk) (images k.disk) leaves k.next k.broken)

-- what a fault says of the bytes where no state could be opened
abbrev pub Says : List ℕ → StateFault → Type 0
Says bytes DiskFault = Unit {0}
Says bytes Memory = Unit {0}
Says bytes (WrongLength n) = IsMisfit bytes
Says bytes NotFormatted = ⊥
Says bytes Exhausted = ⊥
Says bytes (Broken index) = ⊥

-- and where none could be made
abbrev pub SaysLong : List ℕ → StateFault → Type 0
SaysLong bytes DiskFault = Unit {0}
SaysLong bytes Memory = Unit {0}
SaysLong bytes (WrongLength n) = 16 + leaves < length bytes
SaysLong bytes NotFormatted = ⊥
SaysLong bytes Exhausted = ⊥
SaysLong bytes (Broken index) = ⊥

-- ---- the answers

-- the fault is neither one of the disk nor want of memory
abbrev pub IsRefusal : StateFault → Type 0
IsRefusal DiskFault = ⊥
IsRefusal Memory = ⊥
IsRefusal (WrongLength n) = Unit {0}
IsRefusal NotFormatted = Unit {0}
IsRefusal Exhausted = Unit {0}
IsRefusal (Broken index) = Unit {0}

-- why an open state gives no index, and that it is as it was
pub record StaysSince (before after : Opened) (why : Type 0) : Type 0 where
  pub same : after ≡ before
  pub because : why

abbrev pub Keeps : Opened → Opened → ℕ → StateFault → Type 0
Keeps before after all DiskFault = after ≡ record { next = before.next; broken = true }
Keeps before after all Exhausted = StaysSince before after (all ≤ before.next)
Keeps before after all (Broken index) = StaysSince before after (before.broken ≡ true)
Keeps before after all Memory = ⊥
Keeps before after all (WrongLength n) = ⊥
Keeps before after all NotFormatted = ⊥

-- the fault isn't one of the disk
abbrev pub IsNoDiskFault : StateFault → Type 0
IsNoDiskFault DiskFault = ⊥
IsNoDiskFault Memory = Unit {0}
IsNoDiskFault (WrongLength n) = Unit {0}
IsNoDiskFault NotFormatted = Unit {0}
IsNoDiskFault Exhausted = Unit {0}
IsNoDiskFault (Broken index) = Unit {0}

-- an open state gives its next index to a request
pub record IsGiven (seed : List ℕ) (before : Opened) (after : Option Opened) (now : Moment) (request reply : List ℕ) : Type 0 where
  pub whole : before.broken ≡ false
  pub left : before.next < leaves
  pub used : after ≡ Some (record { next = before.next + 1; broken = false })
  pub asked : ToStamp
  pub alg : HashAlg
  pub asks : Asks request asked alg
  pub grants : Grants seed before.next now asked reply

-- or it stays, and the request is rejected
pub record IsRejected (before : Opened) (after : Option Opened) (request reply : List ℕ) : Type 0 where
  pub is : reply ≡ rejection
  pub same : after ≡ Some before
  pub refuses : Refuses before request

abbrev pub Gives : List ℕ → Opened → Option Opened → Moment → List ℕ → List ℕ → Type 0
Gives seed before after now request reply = IsGiven seed before after now request reply ⊎ IsRejected before after request reply

-- What contracts see in a trial authority, and what a stamp does to it.
use Rattle.std.specs.Prelude.{◌≡◌, ◌≢◌, ◌⊎◌, ℕ, ◌+◌, ◌<◌, ◌≤◌, Bool, true, false, IsTrue, List, length, Option, Some, None, Result, Vec, IfOk, IsErrOf}
use Rattle.civil_moment.specs.declared.moment.Moment.{Moment}
use Rattle.hash_kit.specs.declared.algorithm.HashAlg.{HashAlg}
use Rattle.ev_world.specs.Causes.{Rose}
use Rattle.ev_world.specs.Disk.{LeavesOnly}
use Rattle.ev_world.specs.declared.authority.StampCall.{StampCall}
use Rattle.ev_world.specs.declared.authority.StampFault.{StampFault}
use Rattle.ev_world.specs.declared.authority.StampFault.TheVariants.{Failed, Memory}
use Rattle.key_state.specs.Keys.{next_index, IsKeyStateFormatted}
use Rattle.key_state.specs.View.{IsState, KeyStateView}
use Rattle.tst_info.specs.Request.{ToStamp}
use Rattle.algorithm_policy.specs.Content.{Content}
use Rattle.trial_authority.specs.Key.{leaves, Trusts}
use Rattle.trial_authority.specs.Reply.{Asks, AsksNothing, Grants, IsSoundReply, rejection}
use Rattle.trial_authority.specs.declared.indexes.Indexes.{Indexes}
use Rattle.trial_authority.specs.declared.indexes.Indexes.TheVariants.{Unopened, Open}

-- an open key state: the index that is given next, and whether the write of one has failed
pub record Opened : Type 0 where
  pub next : ℕ
  pub broken : Bool

-- The seed of its key; the disk of the key state; that state, once it is open; and the calls that were answered or failed.
pub record Stamping (D : Type 0) : Type 0 where
  pub seed : List ℕ
  pub disk : D
  pub state : Option Opened
  pub calls : List StampCall

-- ---- the state

-- An open state is that of the disk, where the disk tells its bytes.
abbrev pub IsKept : {D : Type 0} → Bool → (D → List ℕ) → (D → List ℕ → Type 0) → D → Option Opened → Type 0
IsKept tells reads images disk None = Unit {0}
IsKept tells reads images disk (Some s) = IsTrue tells → IsState (reads disk) (images disk) leaves s.next s.broken

-- The bytes are no state of 1,024 indexes, and none can be made over them: there is a header and another length, or no header and
-- more bytes than those of a state.
pub record IsMisfit (bytes : List ℕ) : Type 0 where
  pub headed : IsKeyStateFormatted bytes → length bytes ≢ 16 + leaves
  pub bare : ¬ IsKeyStateFormatted bytes → 16 + leaves < length bytes

-- A stamp opens this state: the one that is open already; else the one on the disk, or a new one of which no index is used.
pub record Opens {D : Type 0} (tells : Bool) (reads : D → List ℕ) (disk : D) (before : Option Opened) (s : Opened) : Type 0 where
  pub still : (was : Opened) → before ≡ Some was → s ≡ was
  pub whole : before ≡ None → s.broken ≡ false
  pub on_disk : before ≡ None → IsTrue tells → IsKeyStateFormatted (reads disk) → s.next ≡ next_index (reads disk)
  pub made : before ≡ None → IsTrue tells → ¬ IsKeyStateFormatted (reads disk) → s.next ≡ 0
  pub fits : before ≡ None → IsTrue tells → ¬ IsMisfit (reads disk)

-- ---- the answers

-- It is granted, by the next index of the state, which is used from then on; and each policy that trusts the key finds it sound.
pub record IsGranted {D : Type 0} (tells : Bool) (reads : D → List ℕ) (seed : List ℕ) (disk : D) (before after : Option Opened) (now : Moment) (request reply : List ℕ) : Type 0 where
  pub state : Opened
  pub opens : Opens tells reads disk before state
  pub whole : state.broken ≡ false
  pub left : state.next < leaves
  pub used : after ≡ Some (record { next = state.next + 1; broken = false })
  pub asked : ToStamp
  pub alg : HashAlg
  pub asks : Asks request asked alg
  pub grants : Grants seed state.next now asked reply
  pub sound : (policy : Content) → Trusts policy seed → IsSoundReply policy seed now asked alg reply

-- Why a state that is open gives no stamp: nothing was asked for, or it is broken, or each index is used.
abbrev pub Refuses : Opened → List ℕ → Type 0
Refuses s request = AsksNothing request ⊎ ((s.broken ≡ true) ⊎ (leaves ≤ s.next))

-- It is rejected by a state that is open from then on, and no index is used.
pub record IsRefused {D : Type 0} (tells : Bool) (reads : D → List ℕ) (disk : D) (before after : Option Opened) (request : List ℕ) : Type 0 where
  pub state : Opened
  pub opens : Opens tells reads disk before state
  pub same : after ≡ Some state
  pub refuses : Refuses state request

-- It is rejected since there is no state to open.
pub record HasNoState {D : Type 0} (tells : Bool) (reads : D → List ℕ) (disk : D) (before after : Option Opened) : Type 0 where
  pub never : before ≡ None
  pub none : after ≡ None
  pub misfit : IsTrue tells → IsMisfit (reads disk)

-- The bytes of a reply, by what is asked and by the state: one of the three, and no two of them can be.
pub data Answers {D : Type 0} (tells : Bool) (reads : D → List ℕ) (seed : List ℕ) (disk : D) (before after : Option Opened) (now : Moment) (request reply : List ℕ) : Type 0 where
  granted : IsGranted tells reads seed disk before after now request reply → Answers tells reads seed disk before after now request reply
  refused : reply ≡ rejection → IsRefused tells reads disk before after request → Answers tells reads seed disk before after now request reply
  no_state : reply ≡ rejection → HasNoState tells reads disk before after → Answers tells reads seed disk before after now request reply

-- No reply, for a fault of the disk: a state that was open is broken from then on, and one that was opened in this call too.
abbrev pub Breaks : Option Opened → Option Opened → Type 0
Breaks None after = (t : Opened) → after ≡ Some t → t.broken ≡ true
Breaks (Some s) after = after ≡ Some (record { next = s.next; broken = true })

-- No reply, for want of memory: a state that was open is as it was, or its next index is used.
abbrev pub Wants : Option Opened → Option Opened → Type 0
Wants None after = Unit {0}
Wants (Some s) after = (after ≡ Some s) ⊎ ((s.broken ≡ false) × (after ≡ Some (record { next = s.next + 1; broken = false })))

-- ---- crashes

-- bytes with a header, whose next index isn't lower than this one
pub record IsMarkedTo (index : ℕ) (bytes : List ℕ) : Type 0 where
  pub formatted : IsKeyStateFormatted bytes
  pub next : index ≤ next_index bytes

-- ---- a stamp

-- What a stamp does, by its answer. A reply grants by the next index of the state, or rejects, each exactly where it has to. It fails
-- only where the disk does, and no crash since it began leaves a lower index than there was before.
pub record IsStamped {D : Type 0} {A : Type 0} (tells : Bool) (reads : D → List ℕ) (images : D → List ℕ → Type 0) (clock : D → ℕ) (since : D → ℕ → List ℕ → Type 0) (faults : D → ℕ)
    (seed : List ℕ) (old : D) (before : Option Opened) (new : D) (after : Option Opened) (now : Moment) (request : List ℕ) (result : Result (Vec ℕ A) StampFault) : Type 0 where
  pub answers : IfOk result (λ reply. Answers tells reads seed old before after now request reply.items)
  pub rose : IsErrOf result Failed → Rose (faults old) (faults new)
  -- a state that was open stays open, and one that is broken stays broken
  pub breaks : IsErrOf result Failed → Breaks before after
  pub wants : IsErrOf result Memory → Wants before after
  -- bytes with a header that are no state are left as they were
  pub untouched : after ≡ None → IsTrue tells → IsKeyStateFormatted (reads old) → reads new ≡ reads old
  pub later : faults old ≤ faults new
  pub any_moment : (n : ℕ) → IsTrue tells → ((c : List ℕ) → images old c → IsMarkedTo n c) → LeavesOnly clock since old new (IsMarkedTo n)

-- an open key state, as contracts see it
abbrev pub opened_of : {D : Type 0} → KeyStateView D → Opened
opened_of k = record { next = k.next; broken = k.broken }

-- the disk of the key state, open or not
abbrev pub disk_of : {D : Type 0} → Indexes D → D
disk_of (Unopened disk) = disk
disk_of (Open k) = k.disk

-- the key state, once it is open
abbrev pub state_of : {D : Type 0} → Indexes D → Option Opened
state_of (Unopened disk) = None
state_of (Open k) = Some (opened_of k)

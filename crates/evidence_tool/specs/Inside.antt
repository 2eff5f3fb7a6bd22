-- What private functions say of each other.
use Rattle.std.specs.Prelude.{◌≡◌, ℕ, true, false, List, [], ◌∷◌, take, ⊤}
use Rattle.std.specs.declared.option.Option.{Option}
use Rattle.std.specs.Io.KnownBytes.{Appends}
use Rattle.ev_world.specs.Causes.{Rose}
use Rattle.ev_world.specs.Disk.{IsQuiet, LeavesOnly}
use Rattle.entry_codec.specs.declared.entry.Entry.{Entry}
use Rattle.archive_chain.specs.declared.refusal.Refusal.TheVariants.{Limit}
use Rattle.archive_store.specs.declared.fault.StoreFault.{StoreFault}
use Rattle.archive_store.specs.declared.fault.StoreFault.TheVariants as fault
use Rattle.archive_store.specs.Images.{ReadsHistory}
use Rattle.evidence_tool.specs.declared.input.InputFault.{InputFault}
use Rattle.evidence_tool.specs.declared.input.InputFault.TheVariants as input
use Rattle.evidence_tool.specs.declared.session.Served.{Served}
use Rattle.evidence_tool.specs.declared.session.Served.TheVariants as session
use Rattle.evidence_tool.specs.declared.status.Status.{Status}
use Rattle.evidence_tool.specs.declared.status.Status.TheVariants as end
use Rattle.evidence_tool.specs.declared.reply.Reply.{Reply}
use Rattle.evidence_tool.specs.declared.reply.Reply.TheVariants as reply
use Rattle.evidence_tool.specs.declared.request.Request.{Request}
use Rattle.evidence_tool.specs.declared.request.Request.TheVariants.{Deposit, Fetch}
use Rattle.evidence_tool.specs.Requests.{Asked, to_deposit, to_fetch}
use Rattle.evidence_tool.specs.JournalLines.{IsJournalLine}
use Rattle.evidence_tool.specs.Stops.{HoldsFront}

-- ---- statuses

-- of a run whose input is not had
abbrev pub unread_status : InputFault → Status
unread_status input.Read = end.ReadFault
unread_status input.TooLong = end.TooLong
unread_status input.Memory = end.NoMemory

-- of a session
abbrev pub served_status : Served → Status
served_status (session.Done true memory) = end.DiskFault
served_status (session.Done false true) = end.NoMemory
served_status (session.Done false false) = end.Done
served_status session.WriteFault = end.WriteFault
served_status session.Memory = end.NoMemory

-- The fault says that the journal is damaged, or that an entry is none or not legal.
abbrev pub Spoils : StoreFault → Type 0
Spoils (fault.BadLength entry length) = ⊤
Spoils (fault.Damaged entry kept found) = ⊤
Spoils (fault.BadEntry entry place) = ⊤
Spoils (fault.Illegal entry rule) = ⊤
Spoils other = ⊥

-- How the line of a fault was written, by the status: the sink took it; it failed, and took a front part; there was no memory.
pub data IsSaid {K : Type 0} (taken : K → Option (List ℕ)) (faults : K → ℕ) (fault : StoreFault) (old new : K) (status : Status) : Type 0 where
  said : status ≡ end.Damaged → (line : List ℕ) → IsJournalLine fault line → Appends (taken old) (taken new) line → IsSaid taken faults fault old new status
  cut_off : status ≡ end.WriteFault → Rose (faults old) (faults new) → (line : List ℕ) → IsJournalLine fault line
      → (part : ℕ) → Appends (taken old) (taken new) (take part line) → IsSaid taken faults fault old new status
  unmade : status ≡ end.NoMemory → new ≡ old → IsSaid taken faults fault old new status

-- what is written for a fault of opening, and the status
abbrev pub IsReported : {K : Type 0} → (K → Option (List ℕ)) → (K → ℕ) → StoreFault → K → K → Status → Type 0
IsReported taken faults fault.DiskFault old new status = (status ≡ end.DiskFault) × (new ≡ old)
IsReported taken faults fault.NotFormatted old new status = (status ≡ end.NoJournal) × (new ≡ old)
IsReported taken faults fault.Memory old new status = (status ≡ end.NoMemory) × (new ≡ old)
IsReported taken faults other old new status = IsSaid taken faults other old new status

-- ---- stops

-- What a request did to the disk: it began no step, and wrote nothing; or it began one, and a stop since leaves the history of
-- before with it or without it, and once it was done with it.
pub data IsStep {D : Type 0} (reads : D → List ℕ) (images : D → List ℕ → Type 0) (clock : D → ℕ) (since : D → ℕ → List ℕ → Type 0)
    (old new : D) (history begun : List Entry) (done : ℕ) : Type 0 where
  idle : begun ≡ [] → done ≡ 0 → IsQuiet reads images clock since old new → IsStep reads images clock since old new history begun done
  began : (e : Entry) → begun ≡ e ∷ [] → LeavesOnly clock since old new (HoldsFront ReadsHistory history begun 0)
      → ((c : List ℕ) → images new c → HoldsFront ReadsHistory history begun done c)
      → IsStep reads images clock since old new history begun done

-- A run of requests: a stop since leaves what was found and a front of the steps begun, and now one with those that were done.
pub record IsRun {D : Type 0} (images : D → List ℕ → Type 0) (clock : D → ℕ) (since : D → ℕ → List ℕ → Type 0)
    (old new : D) (found begun : List Entry) (done : ℕ) : Type 0 where
  pub any_moment : LeavesOnly clock since old new (HoldsFront ReadsHistory found begun 0)
  pub now : (c : List ℕ) → images new c → HoldsFront ReadsHistory found begun done c

-- ---- requests and replies

-- Each reply is one line but that with documents.
abbrev pub IsOneLine : Reply → Type 0
IsOneLine (reply.Documents place group) = ⊥
IsOneLine (reply.Deposited place first count) = ⊤
IsOneLine (reply.Unknown place id groups) = ⊤
IsOneLine (reply.Full place limit) = ⊤
IsOneLine (reply.Disk place) = ⊤
IsOneLine (reply.Closed place at) = ⊤
IsOneLine (reply.Memory place) = ⊤

-- a fault of a step with a deposit, or of a fetch
abbrev pub IsAnswerable : StoreFault → Type 0
IsAnswerable fault.DiskFault = ⊤
IsAnswerable (fault.Refused (Limit full)) = ⊤
IsAnswerable (fault.Refused refusal) = ⊥
IsAnswerable (fault.Closed at) = ⊤
IsAnswerable (fault.Unknown id groups) = ⊤
IsAnswerable fault.Memory = ⊤
IsAnswerable other = ⊥

-- the reply to it
abbrev pub reply_to : ℕ → StoreFault → Reply
reply_to place (fault.Refused (Limit full)) = reply.Full place full
reply_to place (fault.Closed at) = reply.Closed place at
reply_to place (fault.Unknown id groups) = reply.Unknown place id groups
reply_to place fault.DiskFault = reply.Disk place
reply_to place other = reply.Memory place

-- what a request of the code asks
abbrev pub asked : Request → Asked
asked (Deposit document) = to_deposit document.now
asked (Fetch id) = to_fetch id

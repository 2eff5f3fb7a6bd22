-- How a run of `serve` ends.
use Rattle.std.specs.Prelude.{◌≡◌, ℕ, ◌≤◌, ◌<◌, Bool, true, false, IsTrue, List, [], ◌∷◌, ◌++◌, length, take, IfSome}
use Rattle.std.specs.declared.option.Option.{Option}
use Rattle.std.specs.List.{list_any}
use Rattle.std.specs.Io.KnownBytes.{Appends, IsAtEnd}
use Rattle.ev_world.specs.Causes.{Rose}
use Rattle.ev_world.specs.Disk.{OnlyReads}
use Rattle.gate_journal.specs.Damage.{IsFormatted}
use Rattle.entry_codec.specs.declared.entry.Entry.{Entry}
use Rattle.archive_store.specs.declared.fault.StoreFault.{StoreFault}
use Rattle.archive_store.specs.Told.{entries_of, is_closed}
use Rattle.archive_store.specs.Images.{ReadsHistory}
use Rattle.archive_store.specs.Store.{Telling, IsStore}
use Rattle.archive_store.specs.Opening.{IsOpened, IsUnopened}
use Rattle.evidence_tool.specs.Requests.{Asked, IsRequests}
use Rattle.evidence_tool.specs.declared.reply.Reply.{Reply}
use Rattle.evidence_tool.specs.Replies.{reply_text, reply_texts, is_disk, is_memory}
use Rattle.evidence_tool.specs.Run.{Change, IsLeftAlone}
use Rattle.evidence_tool.specs.Session.{Session}
use Rattle.evidence_tool.specs.JournalLines.{IsJournalLine}
use Rattle.evidence_tool.specs.Stops.{steps_begun, steps_done, IsLeft}

-- the most bytes of an input
abbrev pub input_limit : ℕ
input_limit = 67108864

-- The bytes are within the limit, and are these requests.
pub record IsInput (b : List ℕ) (qs : List Asked) : Type 0 where
  pub short : length b ≤ input_limit
  pub are : IsRequests b qs

-- ---- the replies of a session

-- Each request was answered in turn, and the sink took the texts of the replies; whether some reply says that the disk failed,
-- and whether some says that there was no memory.
pub record AllAnswered {D : Type 0} (tells : Bool) (images : D → List ℕ → Type 0) (faults : D → ℕ) (first : Telling D) (requests : List Asked)
    (taken took : Option (List ℕ)) (disk memory : Bool) (last : Telling D) (left : List Entry → ℕ → Type 0) : Type 0 where
  pub replies : List Reply
  pub session : Session tells images faults first requests replies last
  pub texts : Appends taken took (reply_texts replies)
  pub disk_is : disk ≡ list_any is_disk replies
  pub memory_is : memory ≡ list_any is_memory replies
  pub stopped : IsTrue tells → left (steps_begun requests replies) (steps_done requests replies)

-- The sink failed at the text of a reply: it took the texts of those before it and a part of its own, and no further request was begun.
pub record OneUnwritten {D : Type 0} (tells : Bool) (images : D → List ℕ → Type 0) (faults : D → ℕ) (first : Telling D) (requests : List Asked)
    (taken took : Option (List ℕ)) (last : Telling D) (left : List Entry → ℕ → Type 0) : Type 0 where
  pub begun : List Asked
  pub later : List Asked
  pub in_order : requests ≡ begun ++ later
  pub written : List Reply
  pub unwritten : Reply
  pub session : Session tells images faults first begun (written ++ unwritten ∷ []) last
  pub part : ℕ
  pub texts : Appends taken took (reply_texts written ++ take part (reply_text unwritten))
  pub stopped : IsTrue tells → left (steps_begun begun (written ++ unwritten ∷ [])) (steps_done begun (written ++ unwritten ∷ []))

-- ---- the ends of a run

-- What contracts see of a sink and of a disk, and both before a run and after it.
pub record Ends (K J : Type 0) : Type 1 where
  pub taken : K → Option (List ℕ)
  pub sink_faults : K → ℕ
  pub tells : Bool
  pub reads : J → List ℕ
  pub images : J → List ℕ → Type 0
  pub clock : J → ℕ
  pub since : J → ℕ → List ℕ → Type 0
  pub disk_faults : J → ℕ
  pub sink : Change K
  pub disk : Change J

-- the same, one after the other
abbrev pub ends_by : {K J : Type 0} → (K → Option (List ℕ)) → (K → ℕ) → Bool → (J → List ℕ) → (J → List ℕ → Type 0) → (J → ℕ) → (J → ℕ → List ℕ → Type 0) → (J → ℕ)
    → K → K → J → J → Ends K J
ends_by taken sink_faults tells reads images clock since disk_faults sink sink' disk disk' = record {
  taken = taken;
  sink_faults = sink_faults;
  tells = tells;
  reads = reads;
  images = images;
  clock = clock;
  since = since;
  disk_faults = disk_faults;
  sink = record { before = sink; after = sink' };
  disk = record { before = disk; after = disk' };
}

-- what the sink had taken
abbrev pub taken_before : {K J : Type 0} → Ends K J → Option (List ℕ)
taken_before e = e.taken e.sink.before

-- what it has taken then
abbrev pub taken_after : {K J : Type 0} → Ends K J → Option (List ℕ)
taken_after e = e.taken e.sink.after

-- what the disk read
abbrev pub bytes_before : {K J : Type 0} → Ends K J → List ℕ
bytes_before e = e.reads e.disk.before

-- what it reads then
abbrev pub bytes_after : {K J : Type 0} → Ends K J → List ℕ
bytes_after e = e.reads e.disk.after

-- the count of the sink's faults has risen
abbrev pub SinkRose : {K J : Type 0} → Ends K J → Type 0
SinkRose e = Rose (e.sink_faults e.sink.before) (e.sink_faults e.sink.after)

-- the count of the disk's faults has risen
abbrev pub DiskRose : {K J : Type 0} → Ends K J → Type 0
DiskRose e = Rose (e.disk_faults e.disk.before) (e.disk_faults e.disk.after)

-- neither was touched
pub record IsUntouched {K J : Type 0} (e : Ends K J) : Type 0 where
  pub sink : IsLeftAlone e.sink
  pub disk : IsLeftAlone e.disk

-- nothing was written on the disk: it reads the same, and no crash left, or leaves, what one at the call might not have left
abbrev pub IsUnwritten : {K J : Type 0} → Ends K J → Type 0
IsUnwritten e = OnlyReads e.tells e.reads e.images e.clock e.since e.disk_faults e.disk.before e.disk.after

-- the sink was not touched, and nothing was written on the disk
pub record IsOnlyRead {K J : Type 0} (e : Ends K J) : Type 0 where
  pub sink : IsLeftAlone e.sink
  pub disk : IsUnwritten e

-- The journal is damaged, or an entry is none or not legal after those before it: this fault is the first, and the line says it.
pub record IsSpoilt {K J : Type 0} (e : Ends K J) (fault : StoreFault) (line : List ℕ) : Type 0 where
  pub first : IsTrue e.tells → IsUnopened (bytes_before e) fault
  pub formatted : IsTrue e.tells → IsFormatted (bytes_before e)
  pub line_is : IsJournalLine fault line
  pub disk : IsUnwritten e

-- what a stop leaves, where this history was found
abbrev pub left_of : {K J : Type 0} → Ends K J → List Entry → List Entry → ℕ → Type 0
left_of e found begun done = IsLeft ReadsHistory (e.images e.disk.before) (e.since e.disk.after (e.clock e.disk.before)) (e.images e.disk.after) found begun done

-- The store was opened over the history that the disk read, and keeps what each store keeps; then it was closed. Unless a step has
-- failed, the disk then reads the history that it told at the end. What is read then is what a crash may leave.
pub record Ran {K J : Type 0} (e : Ends K J) (first last : Telling J) : Type 0 where
  pub opened : IsOpened e.tells e.reads e.disk_faults e.disk.before first
  pub keeps : IsStore e.tells (e.images first.disk) (e.disk_faults first.disk) first.base first.told first.archive
  pub not_before : e.disk_faults e.disk.before ≤ e.disk_faults first.disk
  pub closed : e.disk.after ≡ last.disk
  pub holds : IsTrue e.tells → is_closed last.told ≡ false → ReadsHistory (bytes_after e) (entries_of last.told)
  pub read_is_left : IsTrue e.tells → e.images e.disk.after (bytes_after e)

-- the requests were answered, and the replies written
pub record Answered {K J : Type 0} (e : Ends K J) (requests : List Asked) (disk memory : Bool) : Type 0 where
  pub first : Telling J
  pub last : Telling J
  pub ran : Ran e first last
  pub all : AllAnswered e.tells e.images e.disk_faults first requests (taken_before e) (taken_after e) disk memory last (left_of e (entries_of first.told))

-- the requests were answered up to one whose reply couldn't be written
pub record CutOff {K J : Type 0} (e : Ends K J) (requests : List Asked) : Type 0 where
  pub first : Telling J
  pub last : Telling J
  pub ran : Ran e first last
  pub cut : OneUnwritten e.tells e.images e.disk_faults first requests (taken_before e) (taken_after e) last (left_of e (entries_of first.told))

-- ---- the statuses

-- How these requests were served, by the status.
pub data IsServing {K J : Type 0} (e : Ends K J) (requests : List Asked) (status : ℕ) : Type 0 where
  -- there is no journal
  unformatted : status ≡ 6 → (IsTrue e.tells → ¬ IsFormatted (bytes_before e)) → IsOnlyRead e → IsServing e requests status
  -- the journal is damaged, or holds no legal history, and the sink took the line that says where
  spoilt : status ≡ 7 → (fault : StoreFault) (line : List ℕ) → IsSpoilt e fault line → Appends (taken_before e) (taken_after e) line → IsServing e requests status
  -- the sink failed at that line, and took a front part of it
  unsaid : status ≡ 4 → SinkRose e → (fault : StoreFault) (line : List ℕ) → IsSpoilt e fault line → (part : ℕ) → Appends (taken_before e) (taken_after e) (take part line)
      → IsServing e requests status
  -- the disk failed, or there was no memory, before the first request
  unopened : status ≡ 5 → DiskRose e → IsOnlyRead e → IsServing e requests status
  no_room : status ≡ 9 → IsOnlyRead e → IsServing e requests status
  -- the journal was open, and there was no memory for the replies: no request was begun
  no_buffer : status ≡ 9 → Answered e [] false false → IsServing e requests status
  -- the sink failed at a reply
  cut_off : status ≡ 4 → SinkRose e → CutOff e requests → IsServing e requests status
  -- each request was answered: some reply says that the disk failed; else some says that there was no memory; else none does
  disk_failed : status ≡ 5 → DiskRose e → (memory : Bool) → Answered e requests true memory → IsServing e requests status
  memory_wanted : status ≡ 9 → Answered e requests false true → IsServing e requests status
  done : status ≡ 0 → Answered e requests false false → IsServing e requests status

-- How `serve` ended, by the status: the bytes that the source had left, and has left then, its counts of faults, and the rest.
pub data IsServed {K J : Type 0} (left rest : Option (List ℕ)) (source_before source_after : ℕ) (e : Ends K J) (status : ℕ) : Type 0 where
  -- the source failed
  unread : status ≡ 3 → Rose source_before source_after → IsUntouched e → IsServed left rest source_before source_after e status
  -- the input is too long
  too_long : status ≡ 8 → IfSome left (λ b. input_limit < length b) → IsUntouched e → IsServed left rest source_before source_after e status
  -- there was no memory for the input
  unkept : status ≡ 9 → IsUntouched e → IsServed left rest source_before source_after e status
  -- the input was read to its end, and is no list of requests
  no_requests : status ≡ 10 → IsAtEnd rest → IfSome left (λ b. length b ≤ input_limit) → IfSome left (λ b. (qs : List Asked) → IsRequests b qs → ⊥) → IsUntouched e
      → IsServed left rest source_before source_after e status
  -- the input was read to its end, is these requests, and they were served
  served : (requests : List Asked) → IsAtEnd rest → IfSome left (λ b. IsInput b requests) → IsServing e requests status → IsServed left rest source_before source_after e status

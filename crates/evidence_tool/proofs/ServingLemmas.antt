-- How a run ends, from what its parts answered.
use Rattle.std.proofs.Common.{◌≡◌, ◌⊎◌, inl, inr, ⊎_elim, ℕ, ◌≤◌, Bool, true, false, ◌||◌, IsTrue, Option, Some, None, IfSome, List, [], ◌∷◌, ◌++◌, length, take, refl, sym, ap, ◌∙◌, subst, arith}
use Rattle.std.specs.List.{list_any}
use Rattle.std.specs.Io.KnownBytes.{Consumes, IsAtEnd}
use Rattle.std.proofs.lemmas.List.{length-append}
use Rattle.ev_world.specs.Causes.{Rose}
use Rattle.gate_journal.specs.Damage.{IsFormatted}
use Rattle.gate_journal.specs.Journal.{frames, image, Reads}
use Rattle.entry_codec.specs.declared.entry.Entry.{Entry}
use Rattle.archive_store.specs.declared.fault.StoreFault.{StoreFault}
use Rattle.archive_store.specs.declared.fault.StoreFault.TheVariants as fault
use Rattle.archive_store.specs.Told.{entries_of}
use Rattle.archive_store.specs.Images.{ReadsHistory}
use Rattle.archive_store.specs.Store.{Telling}
use Rattle.archive_store.specs.Opening.{Unopens, IsUnopened, IsOutside, IsOpenFault}
use Rattle.evidence_tool.specs.declared.request.RequestsFault.TheVariants as requests
use Rattle.evidence_tool.specs.declared.session.Served.{Served}
use Rattle.evidence_tool.specs.declared.session.Served.TheVariants as session
use Rattle.evidence_tool.specs.declared.reply.Reply.{Reply}
use Rattle.evidence_tool.specs.declared.reply.Reply.TheVariants.{Deposited, Documents, Unknown, Full, Disk, Closed, Memory}
use Rattle.evidence_tool.specs.declared.status.Status.{Status}
use Rattle.evidence_tool.specs.Replies.{is_disk}
use Rattle.evidence_tool.specs.Requests.{Asked, to_deposit, to_fetch, IsRequests}
use Rattle.evidence_tool.specs.Session.{Answers, Session}
use Rattle.evidence_tool.specs.JournalLines.{IsJournalLine}
use Rattle.evidence_tool.specs.Inside.{served_status, Spoils, IsSaid, said, cut_off as said_in_part, unmade, IsReported}
use Rattle.evidence_tool.specs.Status.{code_of}
use Rattle.evidence_tool.specs.Served.{Ends, taken_before, taken_after, bytes_before, SinkRose, DiskRose, IsUnwritten, left_of, Ran, AllAnswered, OneUnwritten, IsServing, unformatted, spoilt, unsaid, unopened, no_room, no_buffer, cut_off, disk_failed, memory_wanted, done, IsServed, served, unread, too_long, unkept, no_requests, IsInput, input_limit}
use Rattle.evidence_tool.proofs.SessionLemmas.{append-nil, session_started, Left}

-- ---- the count of the disk's faults

rose_of_either : (one other : Bool) (a b c : ℕ) → a ≤ b → b ≤ c → (one ≡ true → Rose a b) → (other ≡ true → Rose b c) → (one || other) ≡ true → Rose a c
rose_of_either true other a b c ab bc p q some = let r : Rose a b = p refl in omega (arith, r)
rose_of_either false other a b c ab bc p q some = let r : Rose b c = q some in omega (arith, r)

module _ {D : Type 0} (tells : Bool) (images : D → List ℕ → Type 0) (faults : D → ℕ) where
  -- it rises where a reply says that the disk failed
  answers_rose : (s : Telling D) (q : Asked) (r : Reply) (t : Telling D) → Answers tells images faults s q r t → is_disk r ≡ true → Rose (faults s.disk) (faults t.disk)
  answers_rose s (to_deposit d) (Deposited p first count) t a is = absurd (cc)
  answers_rose s (to_deposit d) (Documents p g) t a is = absurd (cc)
  answers_rose s (to_deposit d) (Unknown p id groups) t a is = absurd (cc)
  answers_rose s (to_deposit d) (Full p limit) t a is = absurd (cc)
  answers_rose s (to_deposit d) (Disk p) t a is = a.rose
  answers_rose s (to_deposit d) (Closed p at) t a is = absurd (cc)
  answers_rose s (to_deposit d) (Memory p) t a is = absurd (cc)
  answers_rose s (to_fetch id) (Deposited p first count) t a is = absurd (cc)
  answers_rose s (to_fetch id) (Documents p g) t a is = absurd (cc)
  answers_rose s (to_fetch id) (Unknown p asked groups) t a is = absurd (cc)
  answers_rose s (to_fetch id) (Full p limit) t a is = absurd (cc)
  answers_rose s (to_fetch id) (Disk p) t a is = a.rose
  answers_rose s (to_fetch id) (Closed p at) t a is = absurd (cc)
  answers_rose s (to_fetch id) (Memory p) t a is = absurd (cc)

  session_later : (s : Telling D) (qs : List Asked) (rs : List Reply) (t : Telling D) → Session tells images faults s qs rs t → faults s.disk ≤ faults t.disk
  session_later s [] [] t run = omega (arith, ap (λ (x : Telling D). faults x.disk) run)
  session_later s [] (r ∷ rs) t run = absurd run
  session_later s (q ∷ qs) [] t run = absurd run
  session_later s (q ∷ qs) (r ∷ rs) t run = omega (arith, run.1.later, session_later run.0 qs rs t run.2)

  session_rose : (s : Telling D) (qs : List Asked) (rs : List Reply) (t : Telling D) → Session tells images faults s qs rs t → list_any is_disk rs ≡ true → Rose (faults s.disk) (faults t.disk)
  session_rose s [] [] t run some = absurd (cc)
  session_rose s [] (r ∷ rs) t run some = absurd run
  session_rose s (q ∷ qs) [] t run some = absurd run
  session_rose s (q ∷ qs) (r ∷ rs) t run some = rose_of_either (is_disk r) (list_any is_disk rs) (faults s.disk) (faults run.0.disk) (faults t.disk)
      run.1.later (session_later run.0 qs rs t run.2)
      (answers_rose s q r run.0 run.1.cause) (session_rose run.0 qs rs t run.2) some

-- ---- a journal that is not opened

-- what reads some payloads has a header and a gate
pub reads_formatted : (b : List ℕ) (h : List (List ℕ)) → Reads b h → IsFormatted b
reads_formatted b h reads = record {
  starts = ap (λ (x : List ℕ). take 16 x) reads.is;
  gate = omega (arith, ap (λ (x : List ℕ). length x) reads.is, length-append (frames h) (reads.gate ∷ reads.rest));
}

-- what begins with some frames and an open gate has them too
begins_formatted : (b : List ℕ) (h : List (List ℕ)) (more rest : List ℕ) → b ≡ image h ++ more → more ≡ 1 ∷ rest → IsFormatted b
begins_formatted b h more rest is behind = record {
  starts = ap (λ (x : List ℕ). take 16 x) is;
  gate = omega (arith, ap (λ (x : List ℕ). length x) is, length-append (frames h) more, ap (λ (x : List ℕ). length x) behind);
}

formatted_of : (b : List ℕ) (f : StoreFault) → Spoils f → Unopens b f → IsFormatted b
formatted_of b (fault.BadLength entry n) spoils u = begins_formatted b u.h u.rest u.there.rest u.is u.there.is
formatted_of b (fault.Damaged entry kept found) spoils u = begins_formatted b u.h u.rest _ u.is u.there.is
formatted_of b (fault.BadEntry entry place) spoils u = reads_formatted b u.0 u.1
formatted_of b (fault.Illegal entry rule) spoils u = reads_formatted b u.0 u.1
formatted_of b fault.DiskFault spoils u = absurd spoils
formatted_of b fault.Occupied spoils u = absurd spoils
formatted_of b fault.NotFormatted spoils u = absurd spoils
formatted_of b (fault.Refused refusal) spoils u = absurd spoils
formatted_of b (fault.Closed place) spoils u = absurd spoils
formatted_of b (fault.Unknown id groups) spoils u = absurd spoils
formatted_of b fault.Memory spoils u = absurd spoils

module _ {K J : Type 0} (e : Ends K J) (qs : List Asked) (status : Status) (disk : IsUnwritten e) where
  -- its line was written, or could not be
  line_written : (f : StoreFault) → Spoils f → (IsTrue e.tells → IsUnopened (bytes_before e) f) → IsSaid e.taken e.sink_faults f e.sink.before e.sink.after status → IsServing e qs (code_of status)
  line_written f spoils first (said is line line_is took) =
      spoilt (ap code_of is) f line (record { first = first; formatted = λ told. formatted_of (bytes_before e) f spoils (first told).unopens; line_is = line_is; disk = disk }) took
  line_written f spoils first (said_in_part is rose line line_is part took) =
      unsaid (ap code_of is) rose f line (record { first = first; formatted = λ told. formatted_of (bytes_before e) f spoils (first told).unopens; line_is = line_is; disk = disk }) part took
  line_written f spoils first (unmade is same) = no_room (ap code_of is) (record { sink = same; disk = disk })

  pub not_served : (f : StoreFault) → IsOpenFault f → (IsTrue e.tells → IsUnopened (bytes_before e) f) → (f ≡ fault.DiskFault → DiskRose e)
      → IsReported e.taken e.sink_faults f e.sink.before e.sink.after status → IsServing e qs (code_of status)
  not_served fault.DiskFault answer first rose r = unopened (ap code_of r.0) (rose refl) (record { sink = r.1; disk = disk })
  not_served fault.NotFormatted answer first rose r = unformatted (ap code_of r.0) (λ told. (first told).unopens) (record { sink = r.1; disk = disk })
  not_served fault.Memory answer first rose r = no_room (ap code_of r.0) (record { sink = r.1; disk = disk })
  not_served (fault.BadLength entry n) answer first rose r = line_written (fault.BadLength entry n) tt first r
  not_served (fault.Damaged entry kept found) answer first rose r = line_written (fault.Damaged entry kept found) tt first r
  not_served (fault.BadEntry entry place) answer first rose r = line_written (fault.BadEntry entry place) tt first r
  not_served (fault.Illegal entry rule) answer first rose r = line_written (fault.Illegal entry rule) tt first r
  not_served fault.Occupied answer first rose r = absurd answer
  not_served (fault.Refused refusal) answer first rose r = absurd answer
  not_served (fault.Closed place) answer first rose r = absurd answer
  not_served (fault.Unknown id groups) answer first rose r = absurd answer

-- what was said of a fault that has a line is what is written for it
pub reported : {K : Type 0} (taken : K → Option (List ℕ)) (faults : K → ℕ) (f : StoreFault) (old new : K) (status : Status) → IsOpenFault f
    → (f ≡ fault.DiskFault → ⊥) → (f ≡ fault.NotFormatted → ⊥) → (f ≡ fault.Memory → ⊥) → IsSaid taken faults f old new status → IsReported taken faults f old new status
reported taken faults fault.DiskFault old new status answer disk format memory line = absurd (disk refl)
reported taken faults fault.NotFormatted old new status answer disk format memory line = absurd (format refl)
reported taken faults fault.Memory old new status answer disk format memory line = absurd (memory refl)
reported taken faults (fault.BadLength entry n) old new status answer disk format memory line = line
reported taken faults (fault.Damaged entry kept found) old new status answer disk format memory line = line
reported taken faults (fault.BadEntry entry place) old new status answer disk format memory line = line
reported taken faults (fault.Illegal entry rule) old new status answer disk format memory line = line
reported taken faults fault.Occupied old new status answer disk format memory line = absurd answer
reported taken faults (fault.Refused refusal) old new status answer disk format memory line = absurd answer
reported taken faults (fault.Closed place) old new status answer disk format memory line = absurd answer
reported taken faults (fault.Unknown id groups) old new status answer disk format memory line = absurd answer

-- ---- a session that has ended

pub was_served : {K J : Type 0} (e : Ends K J) (qs : List Asked) (ended : Served) (status : Status) (first last : Telling J) → status ≡ served_status ended
    → Ran e first last
    → ((disk memory : Bool) → ended ≡ session.Done disk memory → AllAnswered e.tells e.images e.disk_faults first qs (taken_before e) (taken_after e) disk memory last (left_of e (entries_of first.told)))
    → (ended ≡ session.WriteFault → OneUnwritten e.tells e.images e.disk_faults first qs (taken_before e) (taken_after e) last (left_of e (entries_of first.told)))
    → (ended ≡ session.WriteFault → SinkRose e)
    → (ended ≡ session.Memory → AllAnswered e.tells e.images e.disk_faults first [] (taken_before e) (taken_after e) false false last (left_of e (entries_of first.told)))
    → IsServing e qs (code_of status)
was_served {K} {J} e qs (session.Done true memory) status first last is ran all cut rose same =
    let answered = all true memory refl in
    let some : Rose (e.disk_faults first.disk) (e.disk_faults last.disk) = session_rose e.tells e.images e.disk_faults first qs answered.replies last answered.session (sym answered.disk_is) in
    disk_failed (ap code_of is) (omega (arith, some, ran.not_before, ap (λ (d : J). e.disk_faults d) ran.closed)) memory (record { first = first; last = last; ran = ran; all = answered })
was_served e qs (session.Done false true) status first last is ran all cut rose same =
    memory_wanted (ap code_of is) (record { first = first; last = last; ran = ran; all = all false true refl })
was_served e qs (session.Done false false) status first last is ran all cut rose same =
    done (ap code_of is) (record { first = first; last = last; ran = ran; all = all false false refl })
was_served e qs session.WriteFault status first last is ran all cut rose same =
    cut_off (ap code_of is) (rose refl) (record { first = first; last = last; ran = ran; cut = cut refl })
was_served e qs session.Memory status first last is ran all cut rose none =
    no_buffer (ap code_of is) (record { first = first; last = last; ran = ran; all = none refl })

-- no request was begun: the store and the sink are as they were
pub none_answered : {D K : Type 0} (tells : Bool) (images : D → List ℕ → Type 0) (faults : D → ℕ) (first last : Telling D) (taken : K → Option (List ℕ)) (k k' : K) (left : Left)
    → last ≡ first → k' ≡ k → (IsTrue tells → left [] 0) → AllAnswered tells images faults first [] (taken k) (taken k') false false last left
none_answered {D} {K} tells images faults first last taken k k' left state sink stopped =
    subst (λ (t : Telling D). AllAnswered tells images faults first [] (taken k) (taken k') false false t left) (sym state)
    (subst (λ (x : K). AllAnswered tells images faults first [] (taken k) (taken x) false false first left) (sym sink) (session_started tells images faults first (taken k) left stopped))

-- ---- the input

-- a source that was read to its end had left these requests
pub input_of : (old new : Option (List ℕ)) (bytes text : List ℕ) (qs : List Asked) → Consumes old new bytes → IsAtEnd new → length bytes ≤ input_limit
    → text ≡ bytes → IsRequests text qs → IfSome old (λ b. IsInput b qs)
input_of None new bytes text qs taken end short is are = tt
input_of (Some xs) None bytes text qs taken end short is are = absurd taken
input_of (Some xs) (Some ys) bytes text qs taken end short is are =
    let all : xs ≡ bytes = taken ∙ (ap (λ (y : List ℕ). bytes ++ y) end ∙ append-nil bytes) in
    record {
      short = subst (λ (b : List ℕ). length b ≤ input_limit) (sym all) short;
      are = subst (λ (b : List ℕ). IsRequests b qs) (is ∙ sym all) are;
    }

pub served_as : {K J : Type 0} (left rest : Option (List ℕ)) (source_before source_after : ℕ) (e : Ends K J) (qs qs' : List Asked) (status : ℕ)
    → qs' ≡ qs → IsAtEnd rest → IfSome left (λ b. IsInput b qs) → IsServing e qs' status → IsServed left rest source_before source_after e status
served_as left rest source_before source_after e qs qs' status same end input serving =
    served qs end input (subst (λ (l : List Asked). IsServing e l status) same serving)

-- a source that was read to its end had left no list of requests
pub no_input_of : (old new : Option (List ℕ)) (bytes text : List ℕ) → Consumes old new bytes → IsAtEnd new → text ≡ bytes
    → ((qs : List Asked) → IsRequests text qs → ⊥) → IfSome old (λ b. (qs : List Asked) → IsRequests b qs → ⊥)
no_input_of None new bytes text taken end is none = tt
no_input_of (Some xs) None bytes text taken end is none = absurd taken
no_input_of (Some xs) (Some ys) bytes text taken end is none =
    let all : xs ≡ bytes = taken ∙ (ap (λ (y : List ℕ). bytes ++ y) end ∙ append-nil bytes) in
    λ qs are. none qs (subst (λ (b : List ℕ). IsRequests b qs) (all ∙ sym is) are)

pub no_memory_here : requests.Shape ≡ requests.Memory → ⊥
no_memory_here e = cc

-- ---- what is well formed

-- a fault that has a line is none of the outside
line_of_outside : (f : StoreFault) (line : List ℕ) → IsJournalLine f line → IsOutside f → ⊥
line_of_outside f line is outside =
    ⊎_elim (λ same. subst (λ (g : StoreFault). IsJournalLine g line) same is) (λ same. subst (λ (g : StoreFault). IsJournalLine g line) same is) outside

module _ {K J : Type 0} (e : Ends K J) where
  served_whole : (qs : List Asked) (status : ℕ) (history : List Entry) → IsServing e qs status → IsTrue e.tells → ReadsHistory (bytes_before e) history
      → (SinkRose e → ⊥) → (DiskRose e → ⊥) → (status ≡ 0) ⊎ (status ≡ 9)
  served_whole qs status history (unformatted is none same) told holds sink disk = absurd (none told (reads_formatted _ _ holds.reads))
  served_whole qs status history (spoilt is f line bad took) told holds sink disk = absurd (line_of_outside f line bad.line_is ((bad.first told).completes history holds))
  served_whole qs status history (unsaid is rose f line bad part took) told holds sink disk = absurd (sink rose)
  served_whole qs status history (unopened is rose same) told holds sink disk = absurd (disk rose)
  served_whole qs status history (no_room is same) told holds sink disk = inr is
  served_whole qs status history (no_buffer is answered) told holds sink disk = inr is
  served_whole qs status history (cut_off is rose cut) told holds sink disk = absurd (sink rose)
  served_whole qs status history (disk_failed is rose memory answered) told holds sink disk = absurd (disk rose)
  served_whole qs status history (memory_wanted is answered) told holds sink disk = inr is
  served_whole qs status history (done is answered) told holds sink disk = inl is

  pub well_formed_is_served : (rest : Option (List ℕ)) (source_before source_after status : ℕ) (bytes : List ℕ) (qs : List Asked) (history : List Entry)
      → IsServed (Some bytes) rest source_before source_after e status → IsInput bytes qs → IsTrue e.tells → ReadsHistory (bytes_before e) history
      → (Rose source_before source_after → ⊥) → (SinkRose e → ⊥) → (DiskRose e → ⊥)
      → (status ≡ 0) ⊎ (status ≡ 9)
  well_formed_is_served rest source_before source_after status bytes qs history (unread is rose same) input told holds source sink disk = absurd (source rose)
  well_formed_is_served rest source_before source_after status bytes qs history (too_long is long same) input told holds source sink disk = absurd (let short = input.short in omega (arith, long, short))
  well_formed_is_served rest source_before source_after status bytes qs history (unkept is same) input told holds source sink disk = inr is
  well_formed_is_served rest source_before source_after status bytes qs history (no_requests is end short none same) input told holds source sink disk = absurd (none qs input.are)
  well_formed_is_served rest source_before source_after status bytes qs history (served asked end input' serving) input told holds source sink disk = served_whole asked status history serving told holds sink disk

-- What a stop leaves, request by request.
use Rattle.std.proofs.Common.{◌≡◌, inl, inr, ⊎_elim, ℕ, ◌+◌, ◌≤◌, min, Bool, true, false, IsTrue, List, [], ◌∷◌, ◌++◌, length, take, refl, sym, ap, ◌∙◌, subst, arith, append_assoc}
use Rattle.std.proofs.lemmas.List.{append-nil, length-append, take-append-le, take_min}
use Rattle.std.proofs.Math.Seq.{take-append-add}
use Rattle.ev_world.specs.Disk.{IsQuiet, LeavesOnly}
use Rattle.ev_world.proofs.Moments.{started, weakly, follows_on}
use Rattle.ev_world.proofs.QuietCalls.{quiet_none}
use Rattle.entry_codec.specs.declared.entry.Entry.{Entry}
use Rattle.archive_chain.specs.declared.refusal.Refusal.{Refusal}
use Rattle.archive_store.specs.declared.fault.StoreFault.{StoreFault}
use Rattle.archive_store.specs.declared.fault.StoreFault.TheVariants as fault
use Rattle.archive_store.specs.declared.item.Item.{Item}
use Rattle.archive_store.specs.declared.item.Item.TheVariants as item
use Rattle.archive_store.specs.Told.{entries_of, is_closed, entry_told, Marks, Adds}
use Rattle.archive_store.specs.Images.{ReadsHistory, ReadsBeforeOrAfter, Leaves}
use Rattle.archive_store.specs.Store.{Telling}
use Rattle.archive_store.specs.Answers.{IsDone, IsTorn, IsUndone}
use Rattle.evidence_tool.specs.Requests.{Asked, to_deposit, to_fetch}
use Rattle.evidence_tool.specs.Entries.{deposit_of}
use Rattle.evidence_tool.specs.declared.reply.Reply.{Reply}
use Rattle.evidence_tool.specs.declared.reply.Reply.TheVariants.{Deposited, Documents, Unknown, Full, Disk, Closed, Memory}
use Rattle.evidence_tool.specs.Session.{Answers, Session}
use Rattle.evidence_tool.specs.Inside.{IsStep, idle, began, IsRun, reply_to}
use Rattle.evidence_tool.specs.Stops.{begun_by, done_by, steps_begun, steps_done, HoldsFront, IsLeft}
use Rattle.evidence_tool.proofs.AnsweringLemmas.{IsLimit, limit_of, fetch_begins_none, fetch_does_none}

-- ---- told lists with one item more

entries_more : (told : List Item) (e : Entry) → entries_of (told ++ item.Entry e ∷ []) ≡ entries_of told ++ e ∷ []
entries_more [] e = refl
entries_more (item.Entry f ∷ told) e = ap (λ (h : List Entry). f ∷ h) (entries_more told e)
entries_more (item.ReadFault ∷ told) e = entries_more told e
entries_more (item.StepFault ∷ told) e = entries_more told e

entries_marked : (told : List Item) → entries_of (told ++ item.ReadFault ∷ []) ≡ entries_of told
entries_marked [] = refl
entries_marked (item.Entry f ∷ told) = ap (λ (h : List Entry). f ∷ h) (entries_marked told)
entries_marked (item.ReadFault ∷ told) = entries_marked told
entries_marked (item.StepFault ∷ told) = entries_marked told

closed_marked : (told : List Item) → is_closed (told ++ item.ReadFault ∷ []) ≡ is_closed told
closed_marked [] = refl
closed_marked (item.Entry f ∷ told) = closed_marked told
closed_marked (item.ReadFault ∷ told) = closed_marked told
closed_marked (item.StepFault ∷ told) = refl

closed_failed : (told : List Item) → is_closed (told ++ item.StepFault ∷ []) ≡ true
closed_failed [] = refl
closed_failed (item.Entry f ∷ told) = closed_failed told
closed_failed (item.ReadFault ∷ told) = closed_failed told
closed_failed (item.StepFault ∷ told) = refl

-- the mark of a read adds no entry, and closes nothing
same_entries : (old new : List Item) → Marks old new → entries_of new ≡ entries_of old
same_entries old new marks = ⊎_elim (λ more. ap entries_of more ∙ entries_marked old) (λ none. ap entries_of none.0) marks

same_closed : (old new : List Item) → Marks old new → is_closed new ≡ is_closed old
same_closed old new marks = ⊎_elim (λ more. ap is_closed more ∙ closed_marked old) (λ none. ap is_closed none.0) marks

-- where the disk tells its bytes, the entry that was added is the one that is told
added_entry : (tells : Bool) (old : List Item) (e : Entry) (new : List Item) → IsTrue tells → Adds tells old e new → entries_of new ≡ entries_of old ++ e ∷ []
added_entry tells old e new told adds =
    ap entries_of adds ∙ entries_more old (entry_told tells e) ∙ ap (λ (b : Bool). entries_of old ++ entry_told b e ∷ []) told

-- ---- fronts

front : (found begun : List Entry) (least k : ℕ) (c : List ℕ) → least ≤ k → ReadsHistory c (found ++ take k begun) → HoldsFront ReadsHistory found begun least c
front found begun least k c enough there = record { steps = k; at_least = enough; there = there }

-- ---- one step

module _ (history : List Entry) (e : Entry) where
  holds_old : (c : List ℕ) → ReadsHistory c history → HoldsFront ReadsHistory history (e ∷ []) 0 c
  holds_old c reads = front history (e ∷ []) 0 0 c (omega arith) (subst (λ (h : List Entry). ReadsHistory c h) (sym (append-nil history)) reads)

  holds_new : (least : ℕ) → least ≤ 1 → (c : List ℕ) → ReadsHistory c (history ++ e ∷ []) → HoldsFront ReadsHistory history (e ∷ []) least c
  holds_new least small c reads = front history (e ∷ []) least 1 c small reads

  either : (c : List ℕ) → ReadsBeforeOrAfter history e c → HoldsFront ReadsHistory history (e ∷ []) 0 c
  either c one = ⊎_elim (λ old. holds_old c old) (λ new. holds_new 0 (omega arith) c new) one

module _ {D : Type 0} (tells : Bool) (reads : D → List ℕ) (images : D → List ℕ → Type 0) (clock : D → ℕ) (since : D → ℕ → List ℕ → Type 0) (faults : D → ℕ) (old new : Telling D) (e : Entry) (leaves : List (List ℕ))
    (any_moment : IsTrue tells → is_closed old.told ≡ false → LeavesOnly clock since old.disk new.disk (ReadsBeforeOrAfter (entries_of old.told) e)) (told : IsTrue tells) where
  run_of : is_closed old.told ≡ false → LeavesOnly clock since old.disk new.disk (HoldsFront ReadsHistory (entries_of old.told) (e ∷ []) 0)
  run_of opened = weakly clock since old.disk new.disk _ _ (any_moment told opened) (either (entries_of old.told) e)

  -- it was done
  pub step_done : (number : ℕ) → IsDone tells images old e leaves number new → IsStep reads images clock since old.disk new.disk (entries_of old.told) (e ∷ []) 1
  step_done number done = began e refl (run_of done.may_follow.not_closed)
      (λ c now. holds_new (entries_of old.told) e 1 (omega arith) c
      (subst (λ (h : List Entry). ReadsHistory c h) (added_entry tells old.told e new.told told done.told) (done.durable told c now)))

  -- the disk failed
  pub step_torn : IsTorn tells images faults old e leaves new → IsStep reads images clock since old.disk new.disk (entries_of old.told) (e ∷ []) 0
  step_torn torn = began e refl (run_of torn.may_follow.not_closed) (λ c now. either (entries_of old.told) e c (torn.left told c now))

-- ---- no step

module _ {D : Type 0} (reads : D → List ℕ) (images : D → List ℕ → Type 0) (clock : D → ℕ) (since : D → ℕ → List ℕ → Type 0) where
  pub quiet_same : (old new : D) → new ≡ old → ((c : List ℕ) → since old (clock old) c → images old c) → IsQuiet reads images clock since old new
  quiet_same old new same only = subst (λ (d : D). IsQuiet reads images clock since old d) (sym same) (quiet_none reads images clock since old only)

  pub no_step : (old new : D) (history : List Entry) → IsQuiet reads images clock since old new → IsStep reads images clock since old new history [] 0
  no_step old new history quiet = idle refl refl quiet

module _ {D : Type 0} (tells : Bool) (reads : D → List ℕ) (images : D → List ℕ → Type 0) (clock : D → ℕ) (since : D → ℕ → List ℕ → Type 0) (faults : D → ℕ) (s t : Telling D) (d : List ℕ)
    (any_moment : IsTrue tells → is_closed s.told ≡ false → LeavesOnly clock since s.disk t.disk (ReadsBeforeOrAfter (entries_of s.told) (deposit_of d)))
    (only : (c : List ℕ) → since s.disk (clock s.disk) c → images s.disk c) (told : IsTrue tells) where
  no_step_of : t.disk ≡ s.disk → IsStep reads images clock since s.disk t.disk (entries_of s.told) [] 0
  no_step_of same = no_step reads images clock since s.disk t.disk (entries_of s.told) (quiet_same reads images clock since s.disk t.disk same only)

  full_stops : (place : ℕ) (refusal : Refusal) → IsLimit refusal → t.disk ≡ s.disk
      → IsStep reads images clock since s.disk t.disk (entries_of s.told) (begun_by (to_deposit d) (reply_to place (fault.Refused refusal))) (done_by (to_deposit d) (reply_to place (fault.Refused refusal)))
  full_stops place refusal limit same =
      subst (λ (r : Refusal). IsStep reads images clock since s.disk t.disk (entries_of s.told) (begun_by (to_deposit d) (reply_to place (fault.Refused r))) (done_by (to_deposit d) (reply_to place (fault.Refused r)))) (sym limit.1) (no_step_of same)

  -- a deposit that was not done
  pub unmet_stops : (place : ℕ) (f : StoreFault) → IsUndone tells images faults s (deposit_of d) [] f t
      → IsStep reads images clock since s.disk t.disk (entries_of s.told) (begun_by (to_deposit d) (reply_to place f)) (done_by (to_deposit d) (reply_to place f))
  unmet_stops place fault.DiskFault undone = step_torn tells reads images clock since faults s t (deposit_of d) [] any_moment told undone
  unmet_stops place (fault.Refused refusal) undone = full_stops place refusal (limit_of s d refusal undone.1) undone.0.disk
  unmet_stops place (fault.Closed at) undone = no_step_of undone.0.disk
  unmet_stops place fault.Memory undone = no_step_of undone.disk
  unmet_stops place fault.Occupied undone = absurd undone
  unmet_stops place fault.NotFormatted undone = absurd undone
  unmet_stops place (fault.BadLength entry n) undone = absurd undone
  unmet_stops place (fault.Damaged entry kept found) undone = absurd undone
  unmet_stops place (fault.BadEntry entry at) undone = absurd undone
  unmet_stops place (fault.Illegal entry rule) undone = absurd undone
  unmet_stops place (fault.Unknown id groups) undone = absurd undone

  pub met_stops : (number first : ℕ) → IsDone tells images s (deposit_of d) [] number t
      → IsStep reads images clock since s.disk t.disk (entries_of s.told) (begun_by (to_deposit d) (Deposited number first 1)) (done_by (to_deposit d) (Deposited number first 1))
  met_stops number first done = step_done tells reads images clock since faults s t (deposit_of d) [] any_moment told number done

-- a fetch begins no step
pub fetch_stops : {D : Type 0} (reads : D → List ℕ) (images : D → List ℕ → Type 0) (clock : D → ℕ) (since : D → ℕ → List ℕ → Type 0) (old new : D) (history : List Entry) (id : ℕ) (r : Reply)
    → IsQuiet reads images clock since old new → IsStep reads images clock since old new history (begun_by (to_fetch id) r) (done_by (to_fetch id) r)
fetch_stops reads images clock since old new history id r quiet =
    subst (λ (n : ℕ). IsStep reads images clock since old new history (begun_by (to_fetch id) r) n) (sym (fetch_does_none id r))
    (subst (λ (l : List Entry). IsStep reads images clock since old new history l 0) (sym (fetch_begins_none id r)) (no_step reads images clock since old new history quiet))

-- the moment of a step, said of the deposit
pub moment_of : {D : Type 0} (tells : Bool) (clock : D → ℕ) (since : D → ℕ → List ℕ → Type 0) (s t : Telling D) (d : List ℕ) (e : Entry) → e ≡ deposit_of d
    → (IsTrue tells → is_closed s.told ≡ false → LeavesOnly clock since s.disk t.disk (ReadsBeforeOrAfter (entries_of s.told) e))
    → IsTrue tells → is_closed s.told ≡ false → LeavesOnly clock since s.disk t.disk (ReadsBeforeOrAfter (entries_of s.told) (deposit_of d))
moment_of tells clock since s t d e same moment =
    subst (λ (x : Entry). IsTrue tells → is_closed s.told ≡ false → LeavesOnly clock since s.disk t.disk (ReadsBeforeOrAfter (entries_of s.told) x)) same moment

-- ---- what a session knows of its steps

clash : (b : Bool) → b ≡ true → b ≡ false → ⊥
clash b one other = cc

no_cons : (e : Entry) (b : List Entry) → b ≡ [] → b ≡ e ∷ [] → ⊥
no_cons e b none some = cc

-- while no step has failed, the steps that were begun are those that were done
pub record AreDone {D : Type 0} (s : Telling D) (begun : List Entry) (done : ℕ) (t : Telling D) : Type 0 where
  pub entries : entries_of t.told ≡ entries_of s.told ++ begun
  pub count : done ≡ length begun

module _ {D : Type 0} (tells : Bool) (images : D → List ℕ → Type 0) (faults : D → ℕ) where
  open_same : (s t : Telling D) → t.told ≡ s.told → is_closed t.told ≡ false → is_closed s.told ≡ false
  open_same s t same is = ap is_closed (sym same) ∙ is

  open_before : (s : Telling D) (q : Asked) (r : Reply) (t : Telling D) → Answers tells images faults s q r t → is_closed t.told ≡ false → is_closed s.told ≡ false
  open_before s (to_deposit d) (Deposited p first count) t a is = a.0.may_follow.not_closed
  open_before s (to_deposit d) (Documents p g) t a is = absurd a
  open_before s (to_deposit d) (Unknown p id groups) t a is = absurd a
  open_before s (to_deposit d) (Full p limit) t a is = open_same s t a.0.told is
  open_before s (to_deposit d) (Disk p) t a is = a.may_follow.not_closed
  open_before s (to_deposit d) (Closed p at) t a is = open_same s t a.0.told is
  open_before s (to_deposit d) (Memory p) t a is = open_same s t a.told is
  open_before s (to_fetch id) (Deposited p first count) t a is = absurd a
  open_before s (to_fetch id) (Documents p g) t a is = open_same s t a.untold.told is
  open_before s (to_fetch id) (Unknown p asked groups) t a is = open_same s t a.0.told is
  open_before s (to_fetch id) (Full p limit) t a is = absurd a
  open_before s (to_fetch id) (Disk p) t a is = sym (same_closed s.told t.told a.told) ∙ is
  open_before s (to_fetch id) (Closed p at) t a is = absurd a
  open_before s (to_fetch id) (Memory p) t a is = open_same s t a.told is

  unchanged : (s t : Telling D) → entries_of t.told ≡ entries_of s.told → AreDone s [] 0 t
  unchanged s t same = record { entries = same ∙ sym (append-nil (entries_of s.told)); count = refl }

  untold : (s t : Telling D) → t.told ≡ s.told → AreDone s [] 0 t
  untold s t same = unchanged s t (ap entries_of same)

  are_done : (s : Telling D) (q : Asked) (r : Reply) (t : Telling D) → IsTrue tells → Answers tells images faults s q r t → is_closed t.told ≡ false → AreDone s (begun_by q r) (done_by q r) t
  are_done s (to_deposit d) (Deposited p first count) t told a is = record { entries = added_entry tells s.told (deposit_of d) t.told told a.0.told; count = refl }
  are_done s (to_deposit d) (Documents p g) t told a is = absurd a
  are_done s (to_deposit d) (Unknown p id groups) t told a is = absurd a
  are_done s (to_deposit d) (Full p limit) t told a is = untold s t a.0.told
  are_done s (to_deposit d) (Disk p) t told a is = absurd (clash (is_closed t.told) (ap is_closed a.told ∙ closed_failed s.told) is)
  are_done s (to_deposit d) (Closed p at) t told a is = untold s t a.0.told
  are_done s (to_deposit d) (Memory p) t told a is = untold s t a.told
  are_done s (to_fetch id) (Deposited p first count) t told a is = absurd a
  are_done s (to_fetch id) (Documents p g) t told a is = untold s t a.untold.told
  are_done s (to_fetch id) (Unknown p asked groups) t told a is = untold s t a.0.told
  are_done s (to_fetch id) (Full p limit) t told a is = absurd a
  are_done s (to_fetch id) (Disk p) t told a is = unchanged s t (same_entries s.told t.told a.told)
  are_done s (to_fetch id) (Closed p at) t told a is = absurd a
  are_done s (to_fetch id) (Memory p) t told a is = untold s t a.told

  -- a step is begun only while no step has failed
  began_open : (s : Telling D) (q : Asked) (r : Reply) (t : Telling D) (e : Entry) → Answers tells images faults s q r t → begun_by q r ≡ e ∷ [] → is_closed s.told ≡ false
  began_open s (to_deposit d) (Deposited p first count) t e a is = a.0.may_follow.not_closed
  began_open s (to_deposit d) (Documents p g) t e a is = absurd a
  began_open s (to_deposit d) (Unknown p id groups) t e a is = absurd a
  began_open s (to_deposit d) (Full p limit) t e a is = absurd (no_cons e [] refl is)
  began_open s (to_deposit d) (Disk p) t e a is = a.may_follow.not_closed
  began_open s (to_deposit d) (Closed p at) t e a is = absurd (no_cons e [] refl is)
  began_open s (to_deposit d) (Memory p) t e a is = absurd (no_cons e [] refl is)
  began_open s (to_fetch id) (Deposited p first count) t e a is = absurd a
  began_open s (to_fetch id) (Documents p g) t e a is = absurd (no_cons e [] refl is)
  began_open s (to_fetch id) (Unknown p asked groups) t e a is = absurd (no_cons e [] refl is)
  began_open s (to_fetch id) (Full p limit) t e a is = absurd a
  began_open s (to_fetch id) (Disk p) t e a is = absurd (no_cons e [] refl is)
  began_open s (to_fetch id) (Closed p at) t e a is = absurd a
  began_open s (to_fetch id) (Memory p) t e a is = absurd (no_cons e [] refl is)

  session_open : (s : Telling D) (qs : List Asked) (rs : List Reply) (t : Telling D) → Session tells images faults s qs rs t → is_closed t.told ≡ false → is_closed s.told ≡ false
  session_open s [] [] t run is = ap (λ (x : Telling D). is_closed x.told) (sym run) ∙ is
  session_open s [] (r ∷ rs) t run is = absurd run
  session_open s (q ∷ qs) [] t run is = absurd run
  session_open s (q ∷ qs) (r ∷ rs) t run is = open_before s q r run.0 run.1.cause (session_open run.0 qs rs t run.2 is)

  session_done : (s : Telling D) (qs : List Asked) (rs : List Reply) (t : Telling D) → IsTrue tells → Session tells images faults s qs rs t → is_closed t.told ≡ false → AreDone s (steps_begun qs rs) (steps_done qs rs) t
  session_done s [] [] t told run is = unchanged s t (ap (λ (x : Telling D). entries_of x.told) run)
  session_done s [] (r ∷ rs) t told run is = absurd run
  session_done s (q ∷ qs) [] t told run is = absurd run
  session_done s (q ∷ qs) (r ∷ rs) t told run is =
      let first = are_done s q r run.0 told run.1.cause (session_open run.0 qs rs t run.2 is) in
      let rest = session_done run.0 qs rs t told run.2 is in
      record {
        entries = rest.entries ∙ ap (λ (l : List Entry). l ++ steps_begun qs rs) first.entries ∙ append_assoc (entries_of s.told) (begun_by q r) (steps_begun qs rs);
        count = omega (arith, first.count, rest.count, length-append (begun_by q r) (steps_begun qs rs));
      }

  -- ---- one request more

  begun_more : (s t : Telling D) (qs : List Asked) (rs : List Reply) (q : Asked) (r : Reply) → Session tells images faults s qs rs t
      → steps_begun (qs ++ q ∷ []) (rs ++ r ∷ []) ≡ steps_begun qs rs ++ begun_by q r
  begun_more s t [] [] q r run = append-nil (begun_by q r)
  begun_more s t [] (r' ∷ rs) q r run = absurd run
  begun_more s t (q' ∷ qs) [] q r run = absurd run
  begun_more s t (q' ∷ qs) (r' ∷ rs) q r run =
      ap (λ (l : List Entry). begun_by q' r' ++ l) (begun_more run.0 t qs rs q r run.2) ∙ sym (append_assoc (begun_by q' r') (steps_begun qs rs) (begun_by q r))

  done_more : (s t : Telling D) (qs : List Asked) (rs : List Reply) (q : Asked) (r : Reply) → Session tells images faults s qs rs t
      → steps_done (qs ++ q ∷ []) (rs ++ r ∷ []) ≡ steps_done qs rs + done_by q r
  done_more s t [] [] q r run = omega arith
  done_more s t [] (r' ∷ rs) q r run = absurd run
  done_more s t (q' ∷ qs) [] q r run = absurd run
  done_more s t (q' ∷ qs) (r' ∷ rs) q r run = omega (arith, done_more run.0 t qs rs q r run.2)

-- a front of some steps is one of more
take_front : (k : ℕ) (xs ys : List Entry) → take (min k (length xs)) (xs ++ ys) ≡ take k xs
take_front k xs ys = take-append-le (min k (length xs)) xs ys (omega arith) ∙ take_min k xs

more_steps : (found begun more : List Entry) (c : List ℕ) → HoldsFront ReadsHistory found begun 0 c → HoldsFront ReadsHistory found (begun ++ more) 0 c
more_steps found begun more c h =
    front found (begun ++ more) 0 (min h.steps (length begun)) c (omega arith) (subst (λ (l : List Entry). ReadsHistory c (found ++ l)) (sym (take_front h.steps begun more)) h.there)

behind : (found begun more now : List Entry) (done least : ℕ) (c : List ℕ) → now ≡ found ++ begun → done ≡ length begun → HoldsFront ReadsHistory now more least c → HoldsFront ReadsHistory found (begun ++ more) (done + least) c
behind found begun more now done least c is count h =
    front found (begun ++ more) (done + least) (length begun + h.steps) c (omega (arith, count, h.at_least))
    (subst (λ (l : List Entry). ReadsHistory c l) (ap (λ (l : List Entry). l ++ take h.steps more) is ∙ append_assoc found begun (take h.steps more) ∙ ap (λ (l : List Entry). found ++ l) (sym (take-append-add begun more h.steps))) h.there)

least_none : (found begun : List Entry) (least : ℕ) (c : List ℕ) → HoldsFront ReadsHistory found begun least c → HoldsFront ReadsHistory found begun 0 c
least_none found begun least c h = front found begun 0 h.steps c (omega arith) h.there

module _ {D : Type 0} (reads : D → List ℕ) (images : D → List ℕ → Type 0) (clock : D → ℕ) (since : D → ℕ → List ℕ → Type 0) where
  pub run_started : (old : D) (found : List Entry) → ((c : List ℕ) → since old (clock old) c → images old c) → ((c : List ℕ) → images old c → ReadsHistory c found) → IsRun images clock since old old found [] 0
  run_started old found only settled =
      let here = λ (c : List ℕ) (now : images old c). front found [] 0 0 c (omega arith) (subst (λ (h : List Entry). ReadsHistory c h) (sym (append-nil found)) (settled c now)) in
      record { any_moment = started clock since old _ (λ c left. here c (only c left)); now = here }

  grown_run : (old mid new : D) (found begun more now : List Entry) (done least : ℕ) (closed : Bool) → IsRun images clock since old mid found begun done
      → (closed ≡ false → (now ≡ found ++ begun) × (done ≡ length begun)) → ((e : Entry) → more ≡ e ∷ [] → closed ≡ false)
      → IsStep reads images clock since mid new now more least → IsRun images clock since old new found (begun ++ more) (done + least)
  grown_run old mid new found begun more now done least closed run whole opened (idle none nothing quiet) =
      let same : begun ++ more ≡ begun = ap (λ (l : List Entry). begun ++ l) none ∙ append-nil begun in
      let sum : done + least ≡ done = omega (arith, nothing) in
      subst (λ (n : ℕ). IsRun images clock since old new found (begun ++ more) n) (sym sum)
      (subst (λ (l : List Entry). IsRun images clock since old new found l done) (sym same) (record {
        any_moment = follows_on clock since old mid new _ _ run.any_moment quiet.run (λ c was. least_none found begun done c (run.now c was));
        now = λ c left. run.now c (quiet.no_more c left);
      }))
  grown_run old mid new found begun more now done least closed run whole opened (began e is moment left) =
      let all = whole (opened e is) in
      record {
        any_moment = follows_on clock since old mid new _ _ (weakly clock since old mid _ _ run.any_moment (λ c h. more_steps found begun more c h)) moment
            (λ c h. least_none found (begun ++ more) (done + 0) c (behind found begun more now done 0 c all.0 all.1 h));
        now = λ c here. behind found begun more now done least c all.0 all.1 (left c here);
      }

  pub run_more : (tells : Bool) (faults : D → ℕ) (s t u : Telling D) (qs : List Asked) (rs : List Reply) (q : Asked) (r : Reply) (old mid new : D) → IsTrue tells
      → Session tells images faults s qs rs t → Answers tells images faults t q r u → IsRun images clock since old mid (entries_of s.told) (steps_begun qs rs) (steps_done qs rs)
      → IsStep reads images clock since mid new (entries_of t.told) (begun_by q r) (done_by q r)
      → IsRun images clock since old new (entries_of s.told) (steps_begun (qs ++ q ∷ []) (rs ++ r ∷ [])) (steps_done (qs ++ q ∷ []) (rs ++ r ∷ []))
  run_more tells faults s t u qs rs q r old mid new told session answers run step =
      subst (λ (n : ℕ). IsRun images clock since old new (entries_of s.told) (steps_begun (qs ++ q ∷ []) (rs ++ r ∷ [])) n) (sym (done_more tells images faults s t qs rs q r session))
      (subst (λ (l : List Entry). IsRun images clock since old new (entries_of s.told) l (steps_done qs rs + done_by q r)) (sym (begun_more tells images faults s t qs rs q r session))
      (grown_run old mid new (entries_of s.told) (steps_begun qs rs) (begun_by q r) (entries_of t.told) (steps_done qs rs) (done_by q r) (is_closed t.told) run
      (λ is. let all = session_done tells images faults s qs rs t told session is in (all.entries, all.count)) (λ e is. began_open tells images faults t q r u e answers is) step))

  -- from before the opening to after the closing
  pub left_since : (journal old new last : D) (found begun : List Entry) (done : ℕ) → last ≡ new → IsQuiet reads images clock since journal old → IsRun images clock since old new found begun done
      → IsLeft ReadsHistory (images journal) (since last (clock journal)) (images last) found begun done
  left_since journal old new last found begun done same quiet run = subst (λ (d : D). IsLeft ReadsHistory (images journal) (since d (clock journal)) (images d) found begun done) (sym same) (record {
    any_moment = λ c left. ⊎_elim (λ was. inl (quiet.run.each c was)) (λ h. inr h) (run.any_moment.before (clock journal) c quiet.run.later left);
    now = run.now;
  })

-- a store that is open leaves its history
pub settled_of : (closed : Bool) (history : List Entry) (c : List ℕ) → closed ≡ false → Leaves closed history c → ReadsHistory c history
settled_of closed history c opened left = ⊎_elim (λ reads. reads) (λ more. absurd (clash closed more.0 opened)) left

-- What a call of the store answers, as the answer to a request.
use Rattle.std.proofs.Common.{◌≡◌, ⊎_elim, ℕ, ◌+◌, ◌≤◌, Bool, Option, Some, None, List, [], ◌∷◌, length, refl, sym, ap, ◌∙◌, subst, arith}
use Rattle.std.specs.Prelude.{sum_by}
use Rattle.std.specs.Option.{option_map, option_or}
use Rattle.object_groups.specs.Groups.{bytes_in}
use Rattle.entry_codec.specs.declared.entry.Entry.{Entry}
use Rattle.entry_codec.specs.declared.entry.Entry.TheVariants.{Deposit, Seal, RenewStamps, RenewTrees, SetPolicy}
use Rattle.archive_chain.specs.declared.refusal.Full.{Full}
use Rattle.archive_chain.specs.declared.refusal.Full.TheVariants.{Groups, Documents, Bytes, Journal}
use Rattle.archive_chain.specs.declared.refusal.Refusal.{Refusal}
use Rattle.archive_chain.specs.declared.refusal.Refusal.TheVariants.{Limit}
use Rattle.archive_chain.specs.Kept.{Kept, groups_of}
use Rattle.archive_chain.specs.Steps.{next}
use Rattle.archive_chain.specs.Rules.{most_groups, most_documents, most_bytes, past, limit_rule}
use Rattle.archive_chain.specs.History.{State, after, start, state_from}
use Rattle.archive_chain.specs.Held.{Held, Agrees}
use Rattle.archive_store.specs.declared.fault.StoreFault.{StoreFault}
use Rattle.archive_store.specs.declared.fault.StoreFault.TheVariants as fault
use Rattle.archive_store.specs.Told.{entries_of}
use Rattle.archive_store.specs.Store.{Telling}
use Rattle.archive_store.specs.Answers.{IsDone, IsUndone, IsRefused, IsUnfetched, IsIdle, IsUntold}
use Rattle.evidence_tool.specs.declared.reply.Reply.{Reply}
use Rattle.evidence_tool.specs.declared.reply.Reply.TheVariants as reply
use Rattle.evidence_tool.specs.Requests.{Asked, to_deposit, to_fetch}
use Rattle.evidence_tool.specs.Replies.{place_of}
use Rattle.evidence_tool.specs.Entries.{deposit_of}
use Rattle.evidence_tool.specs.Session.{IsAsTold, Answers, IsAnswered}
use Rattle.evidence_tool.specs.Stops.{begun_by, done_by}
use Rattle.evidence_tool.specs.Inside.{IsAnswerable, reply_to, IsOneLine}

-- ---- places

next_entries : (k : Kept) (e : Entry) → (next k e).entries ≡ k.entries + 1
next_entries k (Deposit groups) = refl
next_entries k (Seal alg count token) = refl
next_entries k (RenewStamps alg cohorts token) = refl
next_entries k (RenewTrees alg cohorts token) = refl
next_entries k (SetPolicy text) = refl

entries_from : (s : State) (h : List Entry) → (state_from s h).kept.entries ≡ s.kept.entries + length h
entries_from s [] = omega arith
entries_from s (e ∷ h) = omega (arith, entries_from (after s e) h, next_entries s.kept e)

-- the number of entries of the archive is that of the entries that the store tells
pub place_of_archive : {D : Type 0} (s : Telling D) (n : ℕ) → Agrees s.archive (entries_of s.told) → n ≡ s.archive.kept.entries → n ≡ length (entries_of s.told)
place_of_archive s n agrees is = is ∙ ap (λ (k : Kept). k.entries) agrees.kept ∙ omega (arith, entries_from start (entries_of s.told))

-- ---- limits

abbrev pub IsLimit : Refusal → Type 0
IsLimit refusal = (limit : Full) × (refusal ≡ Limit limit)

some_limit : (of : ℕ → Full) (number : Option ℕ) (refusal : Refusal) → option_map (λ n. Limit (of n)) number ≡ Some refusal → IsLimit refusal
some_limit of None refusal is = absurd (cc)
some_limit of (Some n) refusal is = (of n, cc)

or_limit : (of : ℕ → Full) (number : Option ℕ) (later : Option Refusal) (refusal : Refusal) → (later ≡ Some refusal → IsLimit refusal)
    → option_or (option_map (λ n. Limit (of n)) number) later ≡ Some refusal → IsLimit refusal
or_limit of None later refusal rest is = rest is
or_limit of (Some n) later refusal rest is = (of n, cc)

limit_broken : (k : Kept) (groups : List (List (List ℕ))) (refusal : Refusal) → limit_rule k groups ≡ Some refusal → IsLimit refusal
limit_broken k groups refusal is =
    let number = past most_documents (k.documents + sum_by length groups) in
    let size = past most_bytes (k.bytes + sum_by bytes_in groups) in
    let bytes = option_map (λ (n : ℕ). Limit (Bytes n)) size in
    or_limit (λ n. Groups n) (past most_groups (groups_of k + length groups)) (option_or (option_map (λ (n : ℕ). Limit (Documents n)) number) bytes) refusal
    (λ later. or_limit (λ n. Documents n) number bytes refusal (λ last. some_limit (λ n. Bytes n) size refusal last) later) is

-- a deposit is refused for a limit alone
pub limit_of : {D : Type 0} (s : Telling D) (d : List ℕ) (refusal : Refusal) → IsRefused s (deposit_of d) [] refusal → IsLimit refusal
limit_of s d refusal refused =
    ⊎_elim (λ broken. ⊎_elim (λ is. limit_broken s.archive.kept ((d ∷ []) ∷ []) refusal is) (λ later. absurd later.1) broken.0) (λ full. (Journal _, full.is)) refused

-- ---- a step with a deposit

module _ {D : Type 0} (tells : Bool) (images : D → List ℕ → Type 0) (faults : D → ℕ) (s t : Telling D) (d : List ℕ) where
  -- the entry of the step is the deposit of the document
  pub done_of : (e : Entry) (leaves : List (List ℕ)) (number : ℕ) → e ≡ deposit_of d → leaves ≡ [] → IsDone tells images s e leaves number t → IsDone tells images s (deposit_of d) [] number t
  done_of e leaves number same none done =
      subst (λ (l : List (List ℕ)). IsDone tells images s (deposit_of d) l number t) none (subst (λ (x : Entry). IsDone tells images s x leaves number t) same done)

  pub undone_of : (e : Entry) (leaves : List (List ℕ)) (f : StoreFault) → e ≡ deposit_of d → leaves ≡ [] → IsUndone tells images faults s e leaves f t → IsUndone tells images faults s (deposit_of d) [] f t
  undone_of e leaves f same none undone =
      subst (λ (l : List (List ℕ)). IsUndone tells images faults s (deposit_of d) l f t) none (subst (λ (x : Entry). IsUndone tells images faults s x leaves f t) same undone)

  limit_answerable : (refusal : Refusal) → IsLimit refusal → IsAnswerable (fault.Refused refusal)
  limit_answerable refusal limit = subst (λ (r : Refusal). IsAnswerable (fault.Refused r)) (sym limit.1) tt

  pub step_answerable : (f : StoreFault) → IsUndone tells images faults s (deposit_of d) [] f t → IsAnswerable f
  step_answerable fault.DiskFault undone = tt
  step_answerable (fault.Refused refusal) undone = limit_answerable refusal (limit_of s d refusal undone.1)
  step_answerable (fault.Closed at) undone = tt
  step_answerable fault.Memory undone = tt
  step_answerable fault.Occupied undone = absurd undone
  step_answerable fault.NotFormatted undone = absurd undone
  step_answerable (fault.BadLength entry n) undone = absurd undone
  step_answerable (fault.Damaged entry kept found) undone = absurd undone
  step_answerable (fault.BadEntry entry place) undone = absurd undone
  step_answerable (fault.Illegal entry rule) undone = absurd undone
  step_answerable (fault.Unknown id groups) undone = absurd undone

  refused_so : (place : ℕ) (refusal : Refusal) → IsLimit refusal → IsIdle s t → IsRefused s (deposit_of d) [] refusal → Answers tells images faults s (to_deposit d) (reply_to place (fault.Refused refusal)) t
  refused_so place refusal limit idle refused =
      subst (λ (r : Refusal). Answers tells images faults s (to_deposit d) (reply_to place (fault.Refused r)) t) (sym limit.1)
      (idle, subst (λ (r : Refusal). IsRefused s (deposit_of d) [] r) limit.1 refused)

  -- the reply to a fault has its cause
  step_so : (place : ℕ) (f : StoreFault) → IsUndone tells images faults s (deposit_of d) [] f t → Answers tells images faults s (to_deposit d) (reply_to place f) t
  step_so place fault.DiskFault undone = undone
  step_so place (fault.Refused refusal) undone = refused_so place refusal (limit_of s d refusal undone.1) undone.0 undone.1
  step_so place (fault.Closed at) undone = undone
  step_so place fault.Memory undone = record { base = undone.base; told = undone.told; archive = undone.archive }
  step_so place fault.Occupied undone = absurd undone
  step_so place fault.NotFormatted undone = absurd undone
  step_so place (fault.BadLength entry n) undone = absurd undone
  step_so place (fault.Damaged entry kept found) undone = absurd undone
  step_so place (fault.BadEntry entry at) undone = absurd undone
  step_so place (fault.Illegal entry rule) undone = absurd undone
  step_so place (fault.Unknown id groups) undone = absurd undone

  limit_place : (place : ℕ) (refusal : Refusal) → IsLimit refusal → place_of (reply_to place (fault.Refused refusal)) ≡ place
  limit_place place refusal limit = subst (λ (r : Refusal). place_of (reply_to place (fault.Refused r)) ≡ place) (sym limit.1) refl

  step_place : (place : ℕ) (f : StoreFault) → IsUndone tells images faults s (deposit_of d) [] f t → place_of (reply_to place f) ≡ place
  step_place place fault.DiskFault undone = refl
  step_place place (fault.Refused refusal) undone = limit_place place refusal (limit_of s d refusal undone.1)
  step_place place (fault.Closed at) undone = refl
  step_place place fault.Memory undone = refl
  step_place place fault.Occupied undone = refl
  step_place place fault.NotFormatted undone = refl
  step_place place (fault.BadLength entry n) undone = refl
  step_place place (fault.Damaged entry kept found) undone = refl
  step_place place (fault.BadEntry entry at) undone = refl
  step_place place (fault.Illegal entry rule) undone = refl
  step_place place (fault.Unknown id groups) undone = refl

  pub step_unmet : (place : ℕ) (f : StoreFault) → place ≡ length (entries_of s.told) → faults s.disk ≤ faults t.disk → IsUndone tells images faults s (deposit_of d) [] f t
      → IsAnswered tells images faults s (to_deposit d) (reply_to place f) t
  step_unmet place f is later undone = record { cause = step_so place f undone; place = step_place place f undone ∙ is; later = later }

-- ---- a fetch

as_told : {D : Type 0} (s t : Telling D) → IsUntold s t → IsAsTold s t
as_told s t untold = record {
  base = untold.base;
  told = untold.told;
  archive = record {
    kept = ap (λ (h : Held). h.kept) untold.archive;
    trees = ap (λ (h : Held). h.trees) untold.archive;
    policy = ap (λ (h : Held). h.policy) untold.archive;
  };
}

module _ {D : Type 0} (tells : Bool) (images : D → List ℕ → Type 0) (faults : D → ℕ) (s t : Telling D) (id : ℕ) where
  pub fetch_answerable : (f : StoreFault) → IsUnfetched faults s id f t → IsAnswerable f
  fetch_answerable fault.DiskFault unfetched = tt
  fetch_answerable (fault.Unknown number groups) unfetched = tt
  fetch_answerable fault.Memory unfetched = tt
  fetch_answerable (fault.Refused refusal) unfetched = absurd unfetched
  fetch_answerable (fault.Closed at) unfetched = absurd unfetched
  fetch_answerable fault.Occupied unfetched = absurd unfetched
  fetch_answerable fault.NotFormatted unfetched = absurd unfetched
  fetch_answerable (fault.BadLength entry n) unfetched = absurd unfetched
  fetch_answerable (fault.Damaged entry kept found) unfetched = absurd unfetched
  fetch_answerable (fault.BadEntry entry place) unfetched = absurd unfetched
  fetch_answerable (fault.Illegal entry rule) unfetched = absurd unfetched

  pub fetch_unmet : (place : ℕ) (f : StoreFault) → place ≡ length (entries_of s.told) → faults s.disk ≤ faults t.disk → IsUnfetched faults s id f t
      → IsAnswered tells images faults s (to_fetch id) (reply_to place f) t
  fetch_unmet place fault.DiskFault is later unfetched = record { cause = unfetched; place = is; later = later }
  fetch_unmet place (fault.Unknown number groups) is later unfetched = record { cause = unfetched; place = is; later = later }
  fetch_unmet place fault.Memory is later unfetched = record { cause = as_told s t unfetched; place = is; later = later }
  fetch_unmet place (fault.Refused refusal) is later unfetched = absurd unfetched
  fetch_unmet place (fault.Closed at) is later unfetched = absurd unfetched
  fetch_unmet place fault.Occupied is later unfetched = absurd unfetched
  fetch_unmet place fault.NotFormatted is later unfetched = absurd unfetched
  fetch_unmet place (fault.BadLength entry n) is later unfetched = absurd unfetched
  fetch_unmet place (fault.Damaged entry kept found) is later unfetched = absurd unfetched
  fetch_unmet place (fault.BadEntry entry at) is later unfetched = absurd unfetched
  fetch_unmet place (fault.Illegal entry rule) is later unfetched = absurd unfetched

-- no step is begun
pub fetch_begins_none : (id : ℕ) (r : Reply) → begun_by (to_fetch id) r ≡ []
fetch_begins_none id (reply.Deposited place first count) = refl
fetch_begins_none id (reply.Documents place group) = refl
fetch_begins_none id (reply.Unknown place number groups) = refl
fetch_begins_none id (reply.Full place limit) = refl
fetch_begins_none id (reply.Disk place) = refl
fetch_begins_none id (reply.Closed place at) = refl
fetch_begins_none id (reply.Memory place) = refl

pub fetch_does_none : (id : ℕ) (r : Reply) → done_by (to_fetch id) r ≡ 0
fetch_does_none id (reply.Deposited place first count) = refl
fetch_does_none id (reply.Documents place group) = refl
fetch_does_none id (reply.Unknown place number groups) = refl
fetch_does_none id (reply.Full place limit) = refl
fetch_does_none id (reply.Disk place) = refl
fetch_does_none id (reply.Closed place at) = refl
fetch_does_none id (reply.Memory place) = refl

-- ---- documents that found no room

module _ {D : Type 0} (tells : Bool) (images : D → List ℕ → Type 0) (faults : D → ℕ) (s t : Telling D) where
  -- want of memory may be said in the place of documents
  pub unwritten_documents : (q : Asked) (r : Reply) (place : ℕ) → (IsOneLine r → ⊥) → place ≡ length (entries_of s.told) → IsAnswered tells images faults s q r t → IsAnswered tells images faults s q (reply.Memory place) t
  unwritten_documents (to_fetch id) (reply.Documents p group) place long is answered = record { cause = as_told s t answered.cause.untold; place = is; later = answered.later }
  unwritten_documents (to_deposit d) (reply.Documents p group) place long is answered = absurd answered.cause
  unwritten_documents q (reply.Deposited p first count) place long is answered = absurd (long tt)
  unwritten_documents q (reply.Unknown p id groups) place long is answered = absurd (long tt)
  unwritten_documents q (reply.Full p limit) place long is answered = absurd (long tt)
  unwritten_documents q (reply.Disk p) place long is answered = absurd (long tt)
  unwritten_documents q (reply.Closed p at) place long is answered = absurd (long tt)
  unwritten_documents q (reply.Memory p) place long is answered = absurd (long tt)

-- neither has begun a step
pub nothing_begun : (P : List Entry → ℕ → Type 0) (q : Asked) (r : Reply) (place : ℕ) → (IsOneLine r → ⊥) → P (begun_by q r) (done_by q r) → P (begun_by q (reply.Memory place)) (done_by q (reply.Memory place))
nothing_begun P (to_deposit d) (reply.Documents p group) place long there = there
nothing_begun P (to_fetch id) (reply.Documents p group) place long there = there
nothing_begun P q (reply.Deposited p first count) place long there = absurd (long tt)
nothing_begun P q (reply.Unknown p id groups) place long there = absurd (long tt)
nothing_begun P q (reply.Full p limit) place long there = absurd (long tt)
nothing_begun P q (reply.Disk p) place long there = absurd (long tt)
nothing_begun P q (reply.Closed p at) place long there = absurd (long tt)
nothing_begun P q (reply.Memory p) place long there = absurd (long tt)

-- An opening goes over the entries: what it has so far, one more, or the first that spoils the payloads.
use Rattle.std.proofs.Common.{◌≡◌, ℕ, zero, suc, ◌+◌, ◌≤◌, Bool, IsTrue, List, [], ◌∷◌, ◌++◌, map, length, take, drop, Some, refl, sym, ap, subst, ◌∙◌, arith}
use Rattle.std.specs.Prelude.{slice_get}
use Rattle.std.specs.List.{flat_map}
use Rattle.std.proofs.lemmas.List.{length-map, length-take}
use Rattle.std.proofs.Math.Seq.{take-append_seam}
use Rattle.std.proofs.lemmas.Option.{slice_get_within}
use Rattle.std.proofs.lemmas.List.Sums.{sum_by-cons, sum_by-append}
use Rattle.entry_codec.specs.declared.entry.Entry.{Entry}
use Rattle.entry_codec.specs.Spelling.{entry_spelling}
use Rattle.archive_chain.specs.declared.refusal.Refusal.{Refusal}
use Rattle.archive_chain.specs.Kept.{Kept, groups_of}
use Rattle.archive_chain.specs.Sequence.{Trees}
use Rattle.archive_chain.specs.Rules.{Breaks}
use Rattle.archive_chain.specs.History.{State, state_of, groups_in, leaves_of}
use Rattle.archive_chain.specs.Held.{Held, StandsFor}
use Rattle.archive_store.specs.declared.fault.StoreFault.{StoreFault}
use Rattle.archive_store.specs.declared.fault.StoreFault.TheVariants as fault
use Rattle.archive_store.specs.declared.row.Row.{Row}
use Rattle.archive_store.specs.Opening.{BehindHistory, IsBadAt, IsAgainst, Spoils, IsOpenFault}
use Rattle.archive_store.specs.Rows.{entry_at}
use Rattle.archive_store.specs.InsideRows.{entries_at, homes_from, AreReadable, AreRows, row_marks}
use Rattle.archive_store.specs.InsideReplay.{AreReplayed, documents_in, IsNext, IsBreach, IsNotNext}
use Rattle.archive_store.proofs.Telling.{count_entries, entries_same}
use Rattle.archive_store.proofs.Histories.{entries_kept, documents_of}
use Rattle.archive_store.proofs.Homes.{groups_found}
use Rattle.archive_store.proofs.Keeping.{count, rows_as, rows_then}

-- ---- fronts of lists

pub take_whole : {A : Type 0} (xs : List A) → take (length xs) xs ≡ xs
take_whole [] = refl
take_whole (x ∷ xs) = ap (λ l. x ∷ l) (take_whole xs)

-- one item more
pub take_next : {A : Type 0} (xs : List A) (n : ℕ) (x : A) → slice_get xs n ≡ Some x → take (n + 1) xs ≡ take n xs ++ x ∷ []
take_next {A} xs n x is = ap (λ (k : ℕ). take k xs) (let one : n + 1 ≡ suc n = omega arith in one) ∙ next xs n is where
  next : (xs : List A) (n : ℕ) → slice_get xs n ≡ Some x → take (suc n) xs ≡ take n xs ++ x ∷ []
  next [] n is = absurd (cc is)
  next (y ∷ ys) zero is = ap (λ (z : A). z ∷ []) (let same : y ≡ x = cc is in same)
  next (y ∷ ys) (suc n) is = ap (λ (l : List A). y ∷ l) (next ys n is)

-- the rows ask for as many payloads as there are rows
entries_front : (tells : Bool) (rows : List Row) (n : ℕ) (ps : List (List ℕ)) → length rows ≤ n → entries_at tells rows (take n ps) ≡ entries_at tells rows ps
entries_front tells [] n ps le = refl
entries_front tells (r ∷ rows) zero ps le = absurd (omega (arith, le))
entries_front tells (r ∷ rows) (suc n) [] le = refl
entries_front tells (r ∷ rows) (suc n) (p ∷ ps) le =
    ap (λ (es : List Entry). entry_at tells p r.entry ∷ es) (entries_front tells rows n ps (omega (arith, le)))

readable_front : (n : ℕ) (lengths : List ℕ) (rows : List Row) → AreReadable (take n lengths) rows → AreReadable lengths rows
readable_front zero [] rows are = are
readable_front zero (m ∷ lengths) [] are = tt
readable_front zero (m ∷ lengths) (r ∷ rows) are = absurd are
readable_front (suc n) [] rows are = are
readable_front (suc n) (m ∷ lengths) [] are = tt
readable_front (suc n) (m ∷ lengths) (r ∷ rows) are = (are.0, readable_front n lengths rows are.1)

-- ---- the payload of a frame that was read whole

payload_at : (payloads : List (List ℕ)) (n size : ℕ) → slice_get (map length payloads) n ≡ Some size → (p : List ℕ) × (slice_get payloads n ≡ Some p) × (length p ≡ size)
payload_at [] n size is = absurd (cc is)
payload_at (p ∷ payloads) zero size is = (p, refl, (let same : length p ≡ size = cc is in same))
payload_at (p ∷ payloads) (suc n) size is = payload_at payloads n size is

pub whole_payload : (payloads : List (List ℕ)) (lengths : List ℕ) (n size : ℕ) (out : List ℕ) → map length payloads ≡ lengths → slice_get lengths n ≡ Some size
    → ((p : List ℕ) → slice_get payloads n ≡ Some p → out ≡ take size p) → slice_get payloads n ≡ Some out
whole_payload payloads lengths n size out sizes is read =
    let there = payload_at payloads n size (ap (λ (l : List ℕ). slice_get l n) sizes ∙ is) in
    let same : out ≡ there.0 = read there.0 there.1 ∙ ap (λ (k : ℕ). take k there.0) (sym there.2) ∙ take_whole there.0 in
    there.1 ∙ ap (λ (p : List ℕ). Some p) (sym same)

-- what was written over a whole vector
pub written_over : (new old : List ℕ) (n : ℕ) → length new ≡ n → take n (new ++ drop (length new) old) ≡ new
written_over new old n size = ap (λ (k : ℕ). take k (new ++ drop (length new) old)) (sym size) ∙ take-append_seam new (drop (length new) old)

-- ---- the start

pub replay_starts : (tells : Bool) (archive : Held) → StandsFor archive [] → AreReplayed tells [] [] [] archive
replay_starts tells archive stands = record {
  rows_are = record {
    sizes = refl;
    spelled = λ known. refl;
    readable = tt;
    agrees = stands.agrees;
    but_imprint = tt;
    stands = λ known. stands;
    legal = λ known. tt;
  };
  unmarked = refl;
}

-- ---- an entry more

module _ (tells : Bool) (lengths : List ℕ) (payloads : List (List ℕ)) (n : ℕ) (rows : List Row) (old : Held) (so_far : AreReplayed tells (take n lengths) (take n payloads) rows old)
    (payload : List ℕ) (size_is : slice_get lengths n ≡ Some (length payload)) (payload_is : IsTrue tells → slice_get payloads n ≡ Some payload) where
  abbrev history : List Entry
  history = entries_at tells rows (take n payloads)

  -- as many rows as frames so far
  pub row_count : length rows ≡ n
  row_count = omega (arith, count tells (take n lengths) (take n payloads) rows old so_far.rows_are, length-take n lengths, slice_get_within lengths n (length payload) size_is)

  pub readable : AreReadable lengths rows
  readable = readable_front n lengths rows so_far.rows_are.readable

  pub groups : length (homes_from 0 rows) ≡ groups_of old.kept
  groups = groups_found tells (take n lengths) (take n payloads) rows old so_far.rows_are

  pub entries : old.kept.entries ≡ n
  entries = ap (λ (k : Kept). k.entries) so_far.rows_are.agrees.kept ∙ entries_kept history ∙ count_entries tells rows (take n payloads) ∙ row_count

  -- the documents are those of the history
  documents_are : documents_in tells rows payloads ≡ (state_of history).documents
  documents_are = ap (flat_map groups_in) (sym (entries_front tells rows n payloads (omega (arith, row_count)))) ∙ sym (documents_of history)

  -- the leaves over the documents are those over the history
  over_history : (e : Entry) (leaves : List (List ℕ)) → (IsTrue tells → leaves ≡ leaves_of old.kept old.trees (documents_in tells rows payloads) e)
      → IsTrue tells → leaves ≡ leaves_of old.kept old.trees (state_of history).documents e
  over_history e leaves are known = are known ∙ ap (λ (d : List (List (List ℕ))). leaves_of old.kept old.trees d e) documents_are

  pub replayed_more : (new : Held) (more : List Row) → IsNext tells old (documents_in tells rows payloads) rows payload new more
      → AreReplayed tells (take (n + 1) lengths) (take (n + 1) payloads) more new
  replayed_more new more next =
      let t = next.taken.taken in
      let row : Row = record { marks = 0; entry = t.stored } in
      let all : AreRows tells (take n lengths ++ length (entry_spelling next.entry) ∷ []) (take (n + 1) payloads) (rows ++ row ∷ []) new =
      rows_then tells (take n lengths) (take n payloads) rows old so_far.rows_are next.entry next.taken.leaves next.spelled t.keeps (over_history next.entry next.taken.leaves next.taken.leaves_are)
      t.stored t.stored_is 0 (take (n + 1) payloads) (λ known. take_next payloads n payload (payload_is known) ∙ ap (λ (p : List ℕ). take n payloads ++ p ∷ []) next.is) new t.takes in
      let sizes : take n lengths ++ length (entry_spelling next.entry) ∷ [] ≡ take (n + 1) lengths =
      ap (λ (p : List ℕ). take n lengths ++ length p ∷ []) (sym next.is) ∙ sym (take_next lengths n (length payload) size_is) in
      let marks : row_marks (rows ++ row ∷ []) ≡ 0 =
      omega (arith, so_far.unmarked, sum_by-append (λ (r : Row). r.marks) rows (row ∷ []), sum_by-cons (λ (r : Row). r.marks) row []) in
      record {
        rows_are = subst (λ (r : List Row). AreRows tells (take (n + 1) lengths) (take (n + 1) payloads) r new) (sym t.rows_are)
            (subst (λ (l : List ℕ). AreRows tells l (take (n + 1) payloads) (rows ++ row ∷ []) new) sizes all);
        unmarked = ap row_marks t.rows_are ∙ marks;
      }

  -- ---- the first that spoils the payloads

  behind : (P : List Entry → List ℕ → Type 0) → P history payload → IsTrue tells → BehindHistory payloads n P
  behind P there known = record {
    history = history;
    payload = payload;
    legal = so_far.rows_are.legal known;
    count = sym (length-map history (λ (e : Entry). length (entry_spelling e))) ∙ sym (ap length so_far.rows_are.sizes) ∙ omega (arith, length-take n lengths, slice_get_within lengths n (length payload) size_is);
    before = so_far.rows_are.spelled known;
    next = payload_is known;
    there = there;
  }

  breach : (refusal : Refusal) → IsTrue tells → IsBreach tells old (documents_in tells rows payloads) payload refusal → IsAgainst refusal history payload
  breach refusal known b =
      let s : State = state_of history in
      let stands : StandsFor old history = so_far.rows_are.stands known in
      let r = b.breaks in
      let are : r.leaves ≡ leaves_of s.kept s.trees s.documents b.entry =
      over_history b.entry r.leaves r.leaves_are known ∙ ap (λ (k : Kept). leaves_of k old.trees s.documents b.entry) stands.agrees.kept ∙ ap (λ (t : Trees). leaves_of s.kept t s.documents b.entry) stands.trees in
      let breaks : Breaks s.kept old.policy b.entry r.leaves refusal = subst (λ (k : Kept). Breaks k old.policy b.entry r.leaves refusal) stands.agrees.kept r.breaks in
      record {
        entry = b.entry;
        spelled = b.spelled;
        is = b.is;
        breaks = (old.policy, stands.agrees.policy, subst (λ (l : List (List ℕ)). Breaks s.kept old.policy b.entry l refusal) are breaks);
      }

  pub spoils : (e : StoreFault) → IsNotNext tells old (documents_in tells rows payloads) payload n e → IsTrue tells → Spoils payloads e
  spoils (fault.BadEntry number place) not known = subst (λ (k : ℕ). BehindHistory payloads k (IsBadAt place)) (sym not.0) (behind (IsBadAt place) not.1 known)
  spoils (fault.Illegal number refusal) not known = subst (λ (k : ℕ). BehindHistory payloads k (IsAgainst refusal)) (sym not.0) (behind (IsAgainst refusal) (breach refusal known not.1) known)
  spoils fault.DiskFault not known = tt
  spoils fault.Memory not known = tt
  spoils fault.Occupied not known = absurd not
  spoils fault.NotFormatted not known = absurd not
  spoils (fault.BadLength entry size) not known = absurd not
  spoils (fault.Damaged entry kept found) not known = absurd not
  spoils (fault.Refused refusal) not known = absurd not
  spoils (fault.Closed place) not known = absurd not
  spoils (fault.Unknown id number) not known = absurd not

  -- ---- over payloads that are the same where the disk tells them

  module _ (same : List (List ℕ)) (are : IsTrue tells → same ≡ payloads) (text : List ℕ) (is : text ≡ payload) where
    documents_same : documents_in tells rows same ≡ documents_in tells rows payloads
    documents_same = ap (flat_map groups_in) (entries_same tells rows payloads same are)

    pub more_over : (new : Held) (more : List Row) → IsNext tells old (documents_in tells rows same) rows text new more
        → AreReplayed tells (take (n + 1) lengths) (take (n + 1) payloads) more new
    more_over new more next =
        replayed_more new more (subst (λ (t : List ℕ). IsNext tells old (documents_in tells rows payloads) rows t new more) is
        (subst (λ (ds : List (List (List ℕ))). IsNext tells old ds rows text new more) documents_same next))

    pub spoils_over : (e : StoreFault) → IsNotNext tells old (documents_in tells rows same) text n e → IsTrue tells → Spoils payloads e
    spoils_over e not =
        spoils e (subst (λ (t : List ℕ). IsNotNext tells old (documents_in tells rows payloads) t n e) is
        (subst (λ (ds : List (List (List ℕ))). IsNotNext tells old ds text n e) documents_same not))

-- the answers of an opening
pub answers : (tells : Bool) (old : Held) (documents : List (List (List ℕ))) (payload : List ℕ) (entry : ℕ) (e : StoreFault) → IsNotNext tells old documents payload entry e → IsOpenFault e
answers tells old documents payload entry (fault.BadEntry number place) not = tt
answers tells old documents payload entry (fault.Illegal number refusal) not = not.1.breaks.not_memory
answers tells old documents payload entry fault.DiskFault not = tt
answers tells old documents payload entry fault.Memory not = tt
answers tells old documents payload entry fault.Occupied not = absurd not
answers tells old documents payload entry fault.NotFormatted not = absurd not
answers tells old documents payload entry (fault.BadLength number size) not = absurd not
answers tells old documents payload entry (fault.Damaged number kept found) not = absurd not
answers tells old documents payload entry (fault.Refused refusal) not = absurd not
answers tells old documents payload entry (fault.Closed place) not = absurd not
answers tells old documents payload entry (fault.Unknown id number) not = absurd not

-- ---- the end

-- whatever the payloads say where the disk doesn't tell them
pub replayed_as : (tells : Bool) (lengths : List ℕ) (payloads same : List (List ℕ)) (rows : List Row) (archive : Held) → AreReplayed tells lengths payloads rows archive
    → (IsTrue tells → same ≡ payloads) → AreReplayed tells lengths same rows archive
replayed_as tells lengths payloads same rows archive is are_same = record { rows_are = rows_as tells lengths payloads rows archive is.rows_are same are_same; unmarked = is.unmarked }

pub replay_ends : (tells : Bool) (n : ℕ) (lengths : List ℕ) (payloads : List (List ℕ)) (rows : List Row) (archive : Held) → AreReplayed tells (take n lengths) (take n payloads) rows archive
    → n ≡ length lengths → (IsTrue tells → map length payloads ≡ lengths) → AreReplayed tells lengths payloads rows archive
replay_ends tells n lengths payloads rows archive is all sizes =
    let many : IsTrue tells → n ≡ length payloads = λ known. all ∙ ap length (sym (sizes known)) ∙ length-map payloads length in
    subst (λ (l : List ℕ). AreReplayed tells l payloads rows archive) (ap (λ (k : ℕ). take k lengths) all ∙ take_whole lengths)
    (replayed_as tells (take n lengths) (take n payloads) payloads rows archive is (λ known. sym (ap (λ (k : ℕ). take k payloads) (many known) ∙ take_whole payloads)))

-- An entry that was read is taken, or breaks a rule; and so its payload is the next, or spoils the others.
use Rattle.std.proofs.Common.{◌≡◌, ◌≢◌, ⊎_elim, inl, inr, ℕ, suc, ◌+◌, Bool, IsTrue, List, [], ◌∷◌, ◌++◌, length, sum_by, Some, refl, sym, ap, ◌∙◌, arith}
use Rattle.std.proofs.lemmas.List.{length-append, length-map}
use Rattle.std.proofs.lemmas.List.Sums.{sum_by-cons}
use Rattle.entry_codec.specs.declared.entry.Entry.{Entry}
use Rattle.entry_codec.specs.declared.entry.Entry.TheVariants.{Deposit}
use Rattle.entry_codec.specs.declared.fault.EntryFault.{EntryFault}
use Rattle.entry_codec.specs.declared.fault.EntryFault.TheVariants as codec
use Rattle.entry_codec.specs.declared.places.DepositPlaces.{DepositPlaces}
use Rattle.entry_codec.specs.Spelling.{group_spelling, entry_spelling, IsEntry}
use Rattle.entry_codec.specs.Places.{document_places, group_places, LieAt}
use Rattle.entry_codec.specs.Fault.{IsFaultOf}
use Rattle.archive_chain.specs.declared.refusal.Refusal.{Refusal}
use Rattle.archive_chain.specs.declared.refusal.Refusal.TheVariants as rule
use Rattle.archive_chain.specs.Rules.{shape_rule, Keeps, Breaks}
use Rattle.archive_chain.specs.History.{leaves_of}
use Rattle.archive_chain.specs.Held.{Held, Takes, IsCounted}
use Rattle.archive_store.specs.declared.fault.StoreFault.{StoreFault}
use Rattle.archive_store.specs.declared.fault.StoreFault.TheVariants as fault
use Rattle.archive_store.specs.declared.row.Stored.TheVariants.{OnDisk}
use Rattle.archive_store.specs.declared.row.Row.{Row}
use Rattle.archive_store.specs.InsideFaults.{entry_fault, rule_fault}
use Rattle.archive_store.specs.InsideReplay.{IsTaken, BreaksRule, IsRuleOf, IsNotTaken, IsNext, IsNotNext}

-- ---- a deposit by its numbers

length-document_places : (at : ℕ) (documents : List (List ℕ)) → length (document_places at documents) ≡ length documents
length-document_places at [] = refl
length-document_places at (d ∷ documents) = ap suc (length-document_places (at + 4 + length d) documents)

length-group_places : (at : ℕ) (groups : List (List (List ℕ))) → length (group_places at groups) ≡ sum_by length groups
length-group_places at [] = refl
length-group_places at (g ∷ groups) =
    omega (
      arith,
      length-append (document_places (at + 4) g) (group_places (at + length (group_spelling g)) groups),
      length-document_places (at + 4) g,
      length-group_places (at + length (group_spelling g)) groups,
      sum_by-cons length g groups,
    )

pub counted : (groups : List (List (List ℕ))) (places : DepositPlaces) → LieAt groups places → IsCounted groups (length places.counts) (length places.places) places.bytes
counted groups places lie = record {
  groups_are = sym (ap length lie.counts ∙ length-map groups length);
  documents_are = sym (ap length lie.places ∙ length-group_places 5 groups);
  bytes_are = sym lie.bytes;
}

-- ---- an entry that breaks a rule

module _ (tells : Bool) (old : Held) (documents : List (List (List ℕ))) (e : Entry) (number : ℕ) where
  breaks_rule : (leaves : List (List ℕ)) (refusal : Refusal) → (IsTrue tells → leaves ≡ leaves_of old.kept old.trees documents e) → refusal ≢ rule.Memory
      → IsRuleOf old e leaves refusal → BreaksRule tells old documents e refusal
  breaks_rule leaves refusal are not is = record {
    leaves = leaves;
    leaves_are = are;
    breaks = ⊎_elim (λ (same : refusal ≡ rule.Memory). absurd (not same)) (λ (b : Breaks old.kept old.policy e leaves refusal). b) is;
    not_memory = not;
  }

  pub refused : (leaves : List (List ℕ)) (refusal : Refusal) → (IsTrue tells → leaves ≡ leaves_of old.kept old.trees documents e) → IsRuleOf old e leaves refusal
      → IsNotTaken tells old documents e number (rule_fault number refusal)
  refused leaves (rule.Limit full) are is = (refl, breaks_rule leaves (rule.Limit full) are (λ same. absurd (cc same)) is)
  refused leaves (rule.Count count pending) are is = (refl, breaks_rule leaves (rule.Count count pending) are (λ same. absurd (cc same)) is)
  refused leaves (rule.NotLive cohort) are is = (refl, breaks_rule leaves (rule.NotLive cohort) are (λ same. absurd (cc same)) is)
  refused leaves (rule.OtherHash cohort) are is = (refl, breaks_rule leaves (rule.OtherHash cohort) are (λ same. absurd (cc same)) is)
  refused leaves (rule.ChainFull id) are is = (refl, breaks_rule leaves (rule.ChainFull id) are (λ same. absurd (cc same)) is)
  refused leaves (rule.Token check) are is = (refl, breaks_rule leaves (rule.Token check) are (λ same. absurd (cc same)) is)
  refused leaves rule.Imprint are is = (refl, breaks_rule leaves rule.Imprint are (λ same. absurd (cc same)) is)
  refused leaves (rule.TokenEarly token covered) are is = (refl, breaks_rule leaves (rule.TokenEarly token covered) are (λ same. absurd (cc same)) is)
  refused leaves (rule.BadPolicy line kind) are is = (refl, breaks_rule leaves (rule.BadPolicy line kind) are (λ same. absurd (cc same)) is)
  refused leaves (rule.PolicyDrops name) are is = (refl, breaks_rule leaves (rule.PolicyDrops name) are (λ same. absurd (cc same)) is)
  refused leaves rule.Memory are is = tt

  pub misshapen : (refusal : Refusal) → shape_rule old.kept e ≡ Some refusal → IsNotTaken tells old documents e number (rule_fault number refusal)
  misshapen refusal is = refused (leaves_of old.kept old.trees documents e) refusal (λ known. refl) (inr (inl is))

  -- ---- the payload

  pub not_next : (payload : List ℕ) (f : StoreFault) → IsEntry e → payload ≡ entry_spelling e → IsNotTaken tells old documents e number f
      → IsNotNext tells old documents payload number f
  not_next payload (fault.Illegal entry refusal) spelled is not = (not.0, record { entry = e; spelled = spelled; is = is; breaks = not.1 })
  not_next payload fault.DiskFault spelled is not = tt
  not_next payload fault.Memory spelled is not = tt
  not_next payload (fault.BadEntry entry place) spelled is not = absurd not
  not_next payload fault.Occupied spelled is not = absurd not
  not_next payload fault.NotFormatted spelled is not = absurd not
  not_next payload (fault.BadLength entry size) spelled is not = absurd not
  not_next payload (fault.Damaged entry kept found) spelled is not = absurd not
  not_next payload (fault.Refused refusal) spelled is not = absurd not
  not_next payload (fault.Closed place) spelled is not = absurd not
  not_next payload (fault.Unknown id groups) spelled is not = absurd not

pub bad_payload : (tells : Bool) (old : Held) (documents : List (List (List ℕ))) (payload : List ℕ) (number : ℕ) (f : EntryFault) → IsFaultOf payload f
    → IsNotNext tells old documents payload number (entry_fault number f)
bad_payload tells old documents payload number (codec.Bad place) is = (refl, is)
bad_payload tells old documents payload number codec.Memory is = tt

-- ---- an entry that was taken

pub deposit_taken : (old : Held) (rows more : List Row) (groups : List (List (List ℕ))) (places : DepositPlaces) (new : Held) → LieAt groups places
    → Keeps old.kept old.policy (Deposit groups) [] → Takes old (Deposit groups) [] new → more ≡ rows ++ record { marks = 0; entry = OnDisk places } ∷ []
    → IsTaken old rows (Deposit groups) [] new more
deposit_taken old rows more groups places new lie keeps takes are = record { keeps = keeps; takes = takes; stored = OnDisk places; stored_is = lie; rows_are = are }

-- a deposit has no leaves
pub deposit_next : (tells : Bool) (old : Held) (documents : List (List (List ℕ))) (rows more : List Row) (groups : List (List (List ℕ))) (payload : List ℕ) (new : Held)
    → IsEntry (Deposit groups) → payload ≡ entry_spelling (Deposit groups) → IsTaken old rows (Deposit groups) [] new more → IsNext tells old documents rows payload new more
deposit_next tells old documents rows more groups payload new spelled is taken = record {
  entry = Deposit groups;
  spelled = spelled;
  is = is;
  taken = record { leaves = []; leaves_are = λ known. refl; taken = taken };
}

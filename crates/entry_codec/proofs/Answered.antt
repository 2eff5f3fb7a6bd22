-- What a reading answers is what the bytes spell, and what they spell is answered.
use Rattle.std.proofs.Common.{arith, ◌≡◌, ◌≢◌, ℕ, List, [], ◌∷◌, ◌++◌, None, Some, Result, Ok, Err, refl, sym, ap, subst, ◌∙◌}
use Rattle.std.specs.Prelude.{IfOk, IfErr, IsErrAnd}
use Rattle.std.proofs.lemmas.List.{append-nil}
use Rattle.der_values.specs.Reading.{Unless, AnswersUnless}
use Rattle.entry_codec.specs.declared.entry.Entry.{Entry}
use Rattle.entry_codec.specs.declared.fault.EntryFault.{EntryFault}
use Rattle.entry_codec.specs.declared.fault.EntryFault.TheVariants.{Bad, Memory}
use Rattle.entry_codec.specs.declared.entry.Entry.TheVariants.{Deposit}
use Rattle.entry_codec.specs.declared.kind.Kind.{Kind}
use Rattle.entry_codec.specs.declared.kind.Kind.TheVariants as kind
use Rattle.entry_codec.specs.declared.places.DepositPlaces.{DepositPlaces}
use Rattle.entry_codec.specs.Form.{Unread, reads, fault_of, nothing_more}
use Rattle.entry_codec.specs.Places.{LieAt, IsDepositOf, IsOtherKind}
use Rattle.entry_codec.specs.Fault.{deposit_form, kind_form, entry_form, entry_first_fault, is_memory, IsFaultOf}
use Rattle.entry_codec.specs.Spelling.{entry_spelling, IsEntry}
use Rattle.entry_codec.specs.Inside.{read_at, place_of, kind_byte, ReadsWhole}
use Rattle.entry_codec.proofs.Forms.{Accepts, taken, one_value}
use Rattle.entry_codec.proofs.Entries.{accepts, spelled, has_no_fault}

none_left : (place : ℕ) (bytes : List ℕ) → nothing_more (record { place = place; bytes = bytes }) ≡ None → bytes ≡ []
none_left place [] e = refl
none_left place (b ∷ bytes) e = absurd cc

read : (bytes : List ℕ) (e : Entry) → ReadsWhole bytes e → Accepts entry_form bytes e
read bytes e h =
    let t = taken entry_form 0 bytes e h.after h.is in
    let end = none_left h.after.place h.after.bytes h.none in
    let same : t.front ≡ bytes = sym (t.is ∙ ap (λ (l : List ℕ). t.front ++ l) end ∙ append-nil t.front) in
    subst (λ (l : List ℕ). Accepts entry_form l e) same t.accepts

pub found : (bytes : List ℕ) (r : Result Entry EntryFault) → IfOk r (ReadsWhole bytes) → IfOk r (λ e. IsEntry e × (bytes ≡ entry_spelling e))
found bytes (Ok e) h = let is = spelled bytes e (read bytes e h) in (is.entry, is.taken_is)
found bytes (Err f) h = tt

pub faulty : (bytes : List ℕ) (r : Result Entry EntryFault) → IfErr r (λ e. Unless (is_memory e) (entry_first_fault bytes ≡ Some (place_of e))) → IfErr r (IsFaultOf bytes)
faulty bytes (Ok e) h = tt
faulty bytes (Err Memory) h = tt
faulty bytes (Err (Bad place)) h = h

pub only : (bytes : List ℕ) (r : Result Entry EntryFault) → IfOk r (ReadsWhole bytes) → IfErr r (λ e. Unless (is_memory e) (entry_first_fault bytes ≡ Some (place_of e)))
    → (e : Entry) → IsEntry e → bytes ≡ entry_spelling e → AnswersUnless is_memory (λ f. f) e r
only bytes (Ok f) ok fault e is same = one_value entry_form bytes f e (read bytes f ok) (accepts bytes e is same)
only bytes (Err Memory) ok fault e is same = tt
only bytes (Err (Bad place)) ok fault e is same = absurd (let none = has_no_fault bytes (record { entry = e; valid = is; is = same }) in cc)

-- ---- the places of a deposit

pub deposit_found : (bytes : List ℕ) (payload after : Unread) (groups : List (List (List ℕ))) (p : DepositPlaces) → reads entry_form 0 bytes ≡ read_at (kind_form 1) payload
    → read_at deposit_form payload ≡ Ok (Deposit groups, after) → nothing_more after ≡ None → LieAt groups p → IsDepositOf bytes p
unfolding kind_form
deposit_found bytes payload after groups p kind deposit none lie =
    let is = spelled bytes (Deposit groups) (read bytes (Deposit groups) (record { after = after; is = kind ∙ deposit; none = none })) in
    record { groups = groups; valid = is.entry; is = is.taken_is; lie = lie }

pub deposit_faulty : (bytes : List ℕ) (payload : Unread) (f : EntryFault) → reads entry_form 0 bytes ≡ read_at (kind_form 1) payload
    → Unless (is_memory f) (read_at deposit_form payload ≡ Err (place_of f)) → IsFaultOf bytes f
unfolding kind_form
deposit_faulty bytes payload Memory kind wrong = tt
deposit_faulty bytes payload (Bad place) kind wrong = ap (λ r. fault_of r) (kind ∙ wrong)

pub end_faulty : (bytes : List ℕ) (payload after : Unread) (groups : List (List (List ℕ))) (f : EntryFault) → reads entry_form 0 bytes ≡ read_at (kind_form 1) payload
    → read_at deposit_form payload ≡ Ok (Deposit groups, after) → nothing_more after ≡ Some (place_of f) → IsFaultOf bytes f
unfolding kind_form
end_faulty bytes payload after groups Memory kind deposit more = tt
end_faulty bytes payload after groups (Bad place) kind deposit more = ap (λ r. fault_of r) (kind ∙ deposit) ∙ more

pub other_kind : (bytes rest : List ℕ) (k : Kind) → bytes ≡ kind_byte k ∷ rest → k ≢ kind.Deposit → IsOtherKind bytes
other_kind bytes rest kind.Deposit is other = absurd (other refl)
other_kind bytes rest kind.Seal is other = record { kind = 2; rest = rest; is = is; above = omega arith; below = omega arith }
other_kind bytes rest kind.RenewStamps is other = record { kind = 3; rest = rest; is = is; above = omega arith; below = omega arith }
other_kind bytes rest kind.RenewTrees is other = record { kind = 4; rest = rest; is = is; above = omega arith; below = omega arith }
other_kind bytes rest kind.SetPolicy is other = record { kind = 5; rest = rest; is = is; above = omega arith; below = omega arith }

-- a fault that is handed on
pub handed_on : {X : Type 0} (P : EntryFault → Type 0) (r : Result X EntryFault) (f : EntryFault) → IsErrAnd r (λ g. g ≡ f) → P f → IfErr r P
handed_on P (Ok x) f is h = absurd is
handed_on P (Err g) f is h = subst (λ (e : EntryFault). P e) (sym is) h

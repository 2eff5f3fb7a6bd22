-- The first reason not to give a group's record, after a history that the archive agrees with.
use Rattle.std.proofs.Common.{◌≡◌, ℕ, zero, suc, ◌<◌, ◌≤◌, Bool, true, false, List, [], ◌∷◌, length, Option, Some, refl, sym, ap, subst, ◌∙◌, arith}
use Rattle.std.specs.Prelude.{nat_le, slice_index_or, if◌then◌else◌}
use Rattle.std.proofs.lemmas.Bool.{le-leb, lt-leb}
use Rattle.civil_moment.specs.declared.moment.Moment.{Moment}
use Rattle.evidence_verify.specs.Stamps.{places_of, AreSound}
use Rattle.entry_codec.specs.declared.entry.Entry.{Entry}
use Rattle.archive_chain.specs.Kept.{Cover, Kept, groups_of, covers_of}
use Rattle.archive_chain.specs.Sequence.{sequence_of}
use Rattle.archive_chain.specs.Coverings.{AreCoverings}
use Rattle.archive_chain.specs.declared.coverings.Covering.{Covering}
use Rattle.archive_chain.specs.History.{state_of}
use Rattle.archive_chain.specs.Held.{Held, Agrees}
use Rattle.archive_issue.specs.declared.fault.IssueFault.{IssueFault}
use Rattle.archive_issue.specs.declared.fault.IssueFault.TheVariants.{Unknown, Pending}
use Rattle.archive_issue.specs.Record.{documents_of, record_after}
use Rattle.archive_issue.specs.Reason.{time_reason, HasReason}
use Rattle.archive_issue.specs.InsideMarks.{marks_by}
use Rattle.evidence_verify.specs.Lapse.{marks_of}
use Rattle.archive_issue.proofs.Beginning.{Begins, group_begins}
use Rattle.archive_issue.proofs.Marking.{group_said}

past_end : (groups : List (List Cover)) (id : ℕ) → length groups ≤ id → slice_index_or groups id [] ≡ []
past_end [] id past = refl
past_end (g ∷ groups) zero past = absurd (omega (arith, past))
past_end (g ∷ groups) (suc id) past = past_end groups id (omega (arith, past))

module _ (held : Held) (history : List Entry) (id : ℕ) (moment : Moment) (agrees : Agrees held history) where
  none_said : length held.kept.sealed ≤ id → AreSound held.policy (places_of (record_after history id).chains) []
  none_said past =
      let none : covers_of (state_of history).kept id ≡ [] = ap (λ (k : Kept). covers_of k id) (sym agrees.kept) ∙ past_end held.kept.sealed id past in
      subst (λ (covers : List Cover). AreSound held.policy (places_of (sequence_of (state_of history).trees (documents_of history id) covers)) []) (sym none) (record { in_place = refl; sound = tt })

  abbrev not_known : Option IssueFault
  not_known = Some (Unknown id (groups_of held.kept))

  pub unknown : (groups : ℕ) → groups ≡ groups_of held.kept → groups ≤ id → HasReason held history id moment (Some (Unknown id groups))
  unknown groups are past =
      let test : nat_le (groups_of held.kept) id ≡ true = le-leb (groups_of held.kept) id (omega (arith, are, past)) in
      let rest : Option IssueFault = if nat_le (length held.kept.sealed) id then Some (Pending id) else time_reason held.policy moment [] in
      record {
        stamps = [];
        sound = none_said (omega (arith, are, past));
        is = ap (λ (b : Bool). if b then not_known else rest) test ∙ ap (λ (n : ℕ). let o : Option IssueFault = Some (Unknown id n) in o) (sym are);
      }

  pub pending : id < groups_of held.kept → length held.kept.sealed ≤ id → HasReason held history id moment (Some (Pending id))
  pending below past =
      let known : nat_le (groups_of held.kept) id ≡ false = lt-leb (groups_of held.kept) id below in
      let test : nat_le (length held.kept.sealed) id ≡ true = le-leb (length held.kept.sealed) id past in
      let rest : Option IssueFault = if nat_le (length held.kept.sealed) id then Some (Pending id) else time_reason held.policy moment [] in
      record {
        stamps = [];
        sound = none_said past;
        is = ap (λ (b : Bool). if b then not_known else rest) known ∙ ap (λ (b : Bool). if b then Some (Pending id) else time_reason held.policy moment []) test;
      }

  pub at_times : (coverings : List Covering) (reason : Option IssueFault) → id < length held.kept.sealed → AreCoverings held.policy (covers_of held.kept id) coverings
      → reason ≡ time_reason held.policy moment (marks_by coverings) → HasReason held history id moment reason
  at_times coverings reason within are is =
      let same : covers_of held.kept id ≡ covers_of (state_of history).kept id = ap (λ (k : Kept). covers_of k id) agrees.kept in
      let begins : Begins (covers_of (state_of history).kept id) = group_begins history id (subst (λ (k : Kept). id < length k.sealed) agrees.kept within) in
      let said = group_said held.policy (state_of history).trees (documents_of history id) (covers_of (state_of history).kept id) coverings begins
      (subst (λ (covers : List Cover). AreCoverings held.policy covers coverings) same are) in
      let known : nat_le (groups_of held.kept) id ≡ false = lt-leb (groups_of held.kept) id (omega (arith, within)) in
      let test : nat_le (length held.kept.sealed) id ≡ false = lt-leb (length held.kept.sealed) id within in
      let late : Option IssueFault = time_reason held.policy moment (marks_of said.0) in
      let rest : Option IssueFault = if nat_le (length held.kept.sealed) id then Some (Pending id) else late in
      record {
        stamps = said.0;
        sound = said.1;
        is = ap (λ (b : Bool). if b then not_known else rest) known ∙ ap (λ (b : Bool). if b then Some (Pending id) else late) test
            ∙ ap (time_reason held.policy moment) said.2 ∙ sym is;
      }

-- After a legal history a record against which nothing stands is valid.
use Rattle.std.proofs.Common.{◌≡◌, ℕ, ◌<◌, Bool, true, false, List, [], ◌∷◌, length, Option, Some, None, refl, sym, ap, subst, ◌∙◌, arith}
use Rattle.std.specs.Prelude.{nat_le, slice_get, option_map, if◌then◌else◌}
use Rattle.std.proofs.lemmas.Bool.{leb-false}
use Rattle.std.proofs.lemmas.Option.{slice_get-get_or}
use Rattle.civil_moment.specs.declared.moment.Moment.{Moment}
use Rattle.civil_moment.specs.Moment.{is_before}
use Rattle.algorithm_policy.specs.Content.{Content, IsPolicy, first_dropped}
use Rattle.algorithm_policy.specs.Text.{PolicyText}
use Rattle.evidence_syntax.specs.Text.{record_spelling}
use Rattle.evidence_syntax.proofs.Readable.{record_readable}
use Rattle.evidence_verify.specs.declared.verdict.Mode.TheVariants.{Member}
use Rattle.evidence_verify.specs.declared.verdict.Verdict.TheVariants.{Valid}
use Rattle.evidence_verify.specs.Stamps.{places_of, Checked}
use Rattle.evidence_verify.specs.Marks.{first_lapse}
use Rattle.evidence_verify.specs.Lapse.{marks_of, lapse_of}
use Rattle.evidence_verify.specs.Holds.{IsLateEnough}
use Rattle.evidence_verify.specs.Verdict.{Verdicts}
use Rattle.evidence_verify.proofs.Once.{tokens_once}
use Rattle.evidence_verify.proofs.Holding.{valid_holds}
use Rattle.entry_codec.specs.declared.entry.Entry.{Entry}
use Rattle.archive_chain.specs.Kept.{Kept, groups_of, covers_of}
use Rattle.archive_chain.specs.History.{state_of, Legal}
use Rattle.archive_chain.specs.Held.{Held, Agrees}
use Rattle.archive_chain.proofs.Saying.{Trusts}
use Rattle.archive_issue.specs.declared.fault.IssueFault.{IssueFault}
use Rattle.archive_issue.specs.declared.fault.IssueFault.TheVariants.{Unknown, Pending, Early, Lapsed}
use Rattle.archive_issue.specs.Record.{documents_of, record_after}
use Rattle.archive_issue.specs.Reason.{last_time, early_by, time_reason, reason_of, HasReason}
use Rattle.archive_issue.proofs.AllGroups.{by_test}
use Rattle.archive_issue.proofs.Histories.{or_none, map_none, each_stands}
use Rattle.archive_issue.proofs.Holding.{records_hold}
use Rattle.archive_issue.proofs.Written.{records_written}

some_none : {A : Type 0} (x : A) → Some x ≡ None → ⊥
some_none x e = cc

late_enough : (moment : Moment) (stamps : List Checked) → early_by moment (last_time (marks_of stamps)) ≡ None → IsLateEnough moment stamps
late_enough moment [] none = tt
late_enough moment (c ∷ []) none =
    let early : IssueFault = Early moment c.says.time in
    by_test (is_before moment c.says.time)
    (λ t. absurd (some_none early (sym (ap (λ (b : Bool). if b then Some early else None) t) ∙ none)))
    (λ f. f)
late_enough moment (c ∷ d ∷ rest) none = late_enough moment (d ∷ rest) none

passed : {A : Type 0} (b : Bool) (x : A) (rest : Option A) → (if b then Some x else rest) ≡ None → (b ≡ false) × (rest ≡ None)
passed true x rest none = absurd (some_none x none)
passed false x rest none = (refl, none)

-- what there is where no reason is
record IsFree (kept : Kept) (policy : Content) (id : ℕ) (moment : Moment) (stamps : List Checked) : Type 0 where
  pub within : id < length kept.sealed
  pub late : IsLateEnough moment stamps
  pub lasts : lapse_of policy moment stamps ≡ None

free : (kept : Kept) (policy : Content) (id : ℕ) (moment : Moment) (stamps : List Checked) → reason_of kept policy id moment (marks_of stamps) ≡ None → IsFree kept policy id moment stamps
free kept policy id moment stamps none =
    let first = passed (nat_le (groups_of kept) id) (Unknown id (groups_of kept)) (if nat_le (length kept.sealed) id then Some (Pending id) else time_reason policy moment (marks_of stamps)) none in
    let second = passed (nat_le (length kept.sealed) id) (Pending id) (time_reason policy moment (marks_of stamps)) first.1 in
    let both = or_none (early_by moment (last_time (marks_of stamps))) (option_map Lapsed (first_lapse policy moment (marks_of stamps))) second.1 in
    let less = leb-false (length kept.sealed) id second.0 in
    record { within = omega (arith, less); late = late_enough moment stamps both.0; lasts = map_none Lapsed (first_lapse policy moment (marks_of stamps)) both.1 }

pub none_sealed : (kept : Kept) (policy : Content) (id : ℕ) (moment : Moment) (stamps : List Checked) → reason_of kept policy id moment (marks_of stamps) ≡ None → id < length kept.sealed
none_sealed kept policy id moment stamps none = (free kept policy id moment stamps none).within

pub is_valid : ((text : List ℕ) (a b : Content) → PolicyText text a → PolicyText text b → a ≡ b)
    → ((old new : Content) → IsPolicy new → first_dropped old new ≡ None → Trusts old new)
    → (held : Held) (history : List Entry) (id : ℕ) (moment : Moment) → Legal history → Agrees held history → HasReason held history id moment None
    → Verdicts held.policy (documents_of history id) Member moment (record_spelling (record_after history id)) Valid
is_valid once keeps held history id moment legal agrees has =
    let s = state_of history in
    let free = free held.kept held.policy id moment has.stamps has.is in
    let within : id < length s.kept.sealed = subst (λ (k : Kept). id < length k.sealed) agrees.kept free.within in
    let counted = (each_stands once keeps history legal held.policy agrees.policy).pending in
    let here : slice_get s.kept.sealed id ≡ Some (covers_of s.kept id) = slice_get-get_or s.kept.sealed id [] within in
    let there : slice_get s.documents id ≡ Some (documents_of history id) = slice_get-get_or s.documents id [] (omega (arith, counted, within)) in
    let law = records_hold once keeps history held.policy id (covers_of s.kept id) (documents_of history id) legal agrees.policy here there in
    let same : has.stamps ≡ law.stamps = tokens_once held.policy (places_of (record_after history id).chains) has.stamps law.stamps has.sound law.stands.sound in
    let holds = (law.holds moment (subst (IsLateEnough moment) same free.late)).1 (subst (λ (stamps : List Checked). lapse_of held.policy moment stamps ≡ None) same free.lasts) in
    let valid = records_written once keeps history held.policy id (covers_of s.kept id) (documents_of history id) legal agrees.policy here there in
    (valid_holds held.policy (documents_of history id) moment (record_spelling (record_after history id)) (record_after history id) (record_readable (record_after history id) valid)).1 holds

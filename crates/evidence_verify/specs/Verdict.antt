-- The verdict on a record: the first fault, in the order of the verdicts, or that it holds (RFC 4998, 4.3 and 5.3).
use Rattle.std.specs.Prelude.{◌≡◌, ◌⊎◌, ℕ, List, Some, unwrap_or, option_map}
use Rattle.civil_moment.specs.declared.moment.Moment.{Moment}
use Rattle.algorithm_policy.specs.Content.{Content}
use Rattle.evidence_syntax.specs.declared.fault.SyntaxKind.{SyntaxKind}
use Rattle.evidence_syntax.specs.declared.fault.SyntaxFault.TheVariants.{At}
use Rattle.evidence_syntax.specs.Record.{EvidenceRecord, Spells, record_first_fault}
use Rattle.token_check.specs.declared.fault.Check.{Check}
use Rattle.evidence_verify.specs.declared.verdict.Mode.{Mode}
use Rattle.evidence_verify.specs.declared.verdict.Verdict.{Verdict}
use Rattle.evidence_verify.specs.declared.verdict.Verdict.TheVariants.{Valid, Syntax, BadStamp, Lapsed}
use Rattle.evidence_verify.specs.Stamps.{Place, places_of, Checked, AreSound, IsFirstBad}
use Rattle.evidence_verify.specs.Hashes.{mixed_fault}
use Rattle.evidence_verify.specs.Order.{order_fault, early_fault}
use Rattle.evidence_verify.specs.Values.{owed_by}
use Rattle.evidence_verify.specs.Covers.{cover_fault, whole_fault}
use Rattle.evidence_verify.specs.Lapse.{lapse_of}

-- the verdict on a record whose tokens are sound, by what they say
abbrev pub verdict_of : Content → List (List ℕ) → Mode → Moment → List Checked → Verdict
verdict_of policy documents mode moment stamps =
    unwrap_or (mixed_fault stamps) (
    unwrap_or (order_fault stamps) (
    unwrap_or (cover_fault (owed_by documents stamps)) (
    unwrap_or (whole_fault mode (owed_by documents stamps)) (
    unwrap_or (early_fault moment stamps) (
    unwrap_or (option_map Lapsed (lapse_of policy moment stamps))
    Valid)))))

-- The bytes are no record.
pub record IsSyntax (bytes : List ℕ) (verdict : Verdict) : Type 0 where
  pub place : ℕ
  pub kind : SyntaxKind
  pub fault : record_first_fault bytes ≡ Some (At place kind)
  pub blames : verdict ≡ Syntax place kind

-- A token is not sound.
pub record IsBadStamp (policy : Content) (places : List Place) (verdict : Verdict) : Type 0 where
  pub bad : Place
  pub check : Check
  pub first : IsFirstBad policy places bad check
  pub blames : verdict ≡ BadStamp bad.chain bad.stamp check

-- All tokens are sound.
pub record IsJudged (policy : Content) (documents : List (List ℕ)) (mode : Mode) (moment : Moment) (places : List Place) (verdict : Verdict) : Type 0 where
  pub stamps : List Checked
  pub sound : AreSound policy places stamps
  pub judges : verdict ≡ verdict_of policy documents mode moment stamps

-- This is the verdict on the time-stamps in these places.
abbrev pub Judges : Content → List (List ℕ) → Mode → Moment → List Place → Verdict → Type 0
Judges policy documents mode moment places verdict =
    IsBadStamp policy places verdict ⊎ IsJudged policy documents mode moment places verdict

-- The bytes are a record.
pub record JudgesRecord (policy : Content) (documents : List (List ℕ)) (mode : Mode) (moment : Moment) (bytes : List ℕ) (verdict : Verdict) : Type 0 where
  pub evidence : EvidenceRecord
  pub spells : Spells bytes evidence
  pub judges : Judges policy documents mode moment (places_of evidence.chains) verdict

-- This is the verdict on the bytes.
abbrev pub Verdicts : Content → List (List ℕ) → Mode → Moment → List ℕ → Verdict → Type 0
Verdicts policy documents mode moment bytes verdict =
    IsSyntax bytes verdict ⊎ JudgesRecord policy documents mode moment bytes verdict

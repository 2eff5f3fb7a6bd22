-- What repeated answers come to.
use Rattle.std.specs.Prelude.{ℕ, Bool, true, false}
use Rattle.algorithm_policy.specs.Content.{Content}
use Rattle.evidence_verify.specs.declared.verdict.Verdict.{Verdict}
use Rattle.evidence_verify.specs.declared.verdict.Verdict.TheVariants.{Valid}
use Rattle.evidence_verify.specs.Verdict.{Verdicts}
use Rattle.session_text.specs.VerifyInput.{Verification}

-- how many of so many answers are yes, where all are this one
abbrev pub yes_among : ℕ → Bool → ℕ
yes_among count true = count
yes_among count false = 0

-- it is the verdict that the record is valid
abbrev pub is_valid : Verdict → Bool
is_valid Valid = true
is_valid verdict = false

-- the verdict on the record of a verification, under the policy
abbrev pub IsVerdictOn : Verification → Content → Verdict → Type 0
IsVerdictOn v policy verdict = Verdicts policy v.documents v.mode v.moment v.evidence verdict

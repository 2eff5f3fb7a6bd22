-- What is answered to an input, and how that was written.
use Rattle.std.proofs.Common.{◌≡◌, ◌≢◌, ℕ, ◌≤◌, List, ◌++◌, length, Option, Some, None, Result, Ok, Err, sym, ap, subst, ◌∙◌, arith}
use Rattle.std.specs.Prelude.{IfSome, IfOk}
use Rattle.std.specs.Io.KnownBytes.{Consumes, IsAtEnd, Appends}
use Rattle.std.proofs.lemmas.List.{append-nil}
use Rattle.algorithm_policy.specs.declared.fault.PolicyKind.{PolicyKind}
use Rattle.algorithm_policy.specs.Fault.{first_fault}
use Rattle.der_values.specs.Reading.{Unless}
use Rattle.evidence_verify.specs.declared.verdict.Verdict.{Verdict}
use Rattle.evidence_verify.specs.declared.verdict.Verdict.TheVariants.{Valid, Syntax, BadStamp, MixedHash, OutOfOrder, NotCovered, NotWhole, Early, Lapsed}
use Rattle.session_text.specs.declared.shape.ShapeFault.{ShapeFault}
use Rattle.session_text.specs.declared.shape.ShapeFault.TheVariants.{At}
use Rattle.session_text.specs.declared.shape.ShapeKind.{ShapeKind}
use Rattle.session_text.specs.FaultTexts.{shape_line, policy_line}
use Rattle.session_text.specs.Unread.{is_memory}
use Rattle.session_text.specs.VerifyInput.{Verification, IsVerification, verify_first_fault}
use Rattle.evidence_tool.specs.declared.verifying.Outcome.{Outcome}
use Rattle.evidence_tool.specs.declared.status.Status.TheVariants.{BadInput}
use Rattle.evidence_tool.specs.Status.{code_of}
use Rattle.evidence_tool.specs.Verifying.{verdict_status, Answer, no_verification, no_policy, judged}

-- a source that was read to its end had left these bytes
pub left_is : (old new : Option (List ℕ)) (bytes text : List ℕ) → Consumes old new bytes → IsAtEnd new → text ≡ bytes → IfSome old (λ b. b ≡ text)
left_is None new bytes text taken end is = tt
left_is (Some xs) None bytes text taken end is = absurd taken
left_is (Some xs) (Some ys) bytes text taken end is = taken ∙ (ap (λ (y : List ℕ). bytes ++ y) end ∙ append-nil bytes) ∙ sym is

blamed : (bytes : List ℕ) (place : ℕ) (kind : ShapeKind) (fault : ShapeFault) → fault ≡ At place kind → Unless (is_memory fault) (verify_first_fault bytes ≡ Some fault) → verify_first_fault bytes ≡ Some (At place kind)
blamed bytes place kind fault is first =
    let P : ShapeFault → Type 0 = λ f. Unless (is_memory f) (verify_first_fault bytes ≡ Some f) in
    subst P is first

pub shape_answered : {E : Type 0} (bytes : List ℕ) (place : ℕ) (kind : ShapeKind) (f : ShapeFault) (r : Result Outcome E) → f ≡ At place kind → Unless (is_memory f) (verify_first_fault bytes ≡ Some f)
    → IfOk r (λ a. (a.status ≡ BadInput) × (a.line.items ≡ shape_line place kind)) → IfOk r (λ a. Answer bytes (code_of a.status) a.line.items)
shape_answered bytes place kind f (Ok a) same fault is = no_verification (ap code_of is.0) place kind (blamed bytes place kind f same fault) is.1
shape_answered bytes place kind f (Err e) same fault is = tt

pub policy_answered : {E : Type 0} (bytes : List ℕ) (v : Verification) (number : ℕ) (kind : PolicyKind) (r : Result Outcome E) → IsVerification bytes v → first_fault v.policy ≡ Some (number, kind)
    → IfOk r (λ a. (a.status ≡ BadInput) × (a.line.items ≡ policy_line number kind)) → IfOk r (λ a. Answer bytes (code_of a.status) a.line.items)
policy_answered bytes v number kind (Ok a) are fault is = no_policy (ap code_of is.0) v are number kind fault is.1
policy_answered bytes v number kind (Err e) are fault is = tt

pub same_line : (taken took : Option (List ℕ)) (a b : List ℕ) → a ≡ b → Appends taken took a → Appends taken took b
same_line taken took a b e h = subst (λ (l : List ℕ). Appends taken took l) e h

pub same_bytes : (a b : List ℕ) → a ≡ b → (n : ℕ) → length b ≤ n → length a ≤ n
same_bytes a b e n h = subst (λ (l : List ℕ). length l ≤ n) (sym e) h

-- no answer has the status of words that are no command
no_verdict : (verdict : Verdict) → code_of (verdict_status verdict) ≢ 2
no_verdict Valid e = omega arith
no_verdict (Syntax place kind) e = omega arith
no_verdict (BadStamp chain stamp check) e = omega arith
no_verdict (MixedHash chain stamp) e = omega arith
no_verdict (OutOfOrder chain stamp) e = omega arith
no_verdict (NotCovered chain stamp document) e = omega arith
no_verdict (NotWhole chain) e = omega arith
no_verdict (Early moment last) e = omega arith
no_verdict (Lapsed lapse) e = omega arith

pub answer_no_words : (bytes : List ℕ) (status : ℕ) (line : List ℕ) → Answer bytes status line → status ≢ 2
answer_no_words bytes status line (no_verification is place kind fault text) two = omega arith
answer_no_words bytes status line (no_policy is v are number kind fault text) two = omega arith
answer_no_words bytes status line (judged v are policy text verdict verdicts is line_is) two = no_verdict verdict (sym is ∙ two)

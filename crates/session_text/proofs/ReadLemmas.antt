-- What a reading answers is what the bytes spell, and what they spell is answered.
use Rattle.std.proofs.Common.{◌≡◌, ℕ, List, Result, Ok, Err, refl}
use Rattle.std.specs.Prelude.{IfOk, IfErr}
use Rattle.der_values.specs.Reading.{Unless, AnswersUnless}
use Rattle.session_text.specs.declared.shape.ShapeFault.{ShapeFault}
use Rattle.session_text.specs.declared.shape.ShapeFault.TheVariants.{At, Memory}
use Rattle.session_text.specs.declared.verify_input.VerifyInput.{VerifyInput}
use Rattle.session_text.specs.Unread.{is_memory}
use Rattle.session_text.specs.VerifyInput.{Verification, IsVerification, verification_seen, verify_at, from_start}
use Rattle.session_text.specs.Inside.{ReadsVerify}
use Rattle.session_text.proofs.VerifyLemmas.{again, is_verification, same}

pub found : (bytes : List ℕ) (r : Result VerifyInput ShapeFault) → IfOk r (ReadsVerify bytes) → IfOk r (λ v. IsVerification bytes (verification_seen v))
found bytes (Ok v) h = is_verification bytes (verification_seen v) _ h.after h.is refl h.says refl refl h.all
found bytes (Err e) h = tt

pub only : (bytes : List ℕ) (r : Result VerifyInput ShapeFault) → IfOk r (ReadsVerify bytes) → IfErr r (λ e. Unless (is_memory e) (verify_at (from_start bytes) ≡ Err e))
    → (w : Verification) → IsVerification bytes w → AnswersUnless is_memory verification_seen w r
only bytes (Ok v) h e w i = same bytes w i _ h.after h.is v.mode v.moment v.policy.now v.evidence.now v.documents refl h.says refl refl h.all
only bytes (Err Memory) h e w i = tt
only bytes (Err (At place kind)) h e w i = let a = again bytes w i in cc

-- What the check of a token answers, from what it answers soundly.
use Rattle.std.proofs.Common.{◌≡◌, ℕ, List, Result, Ok, Err, ◌⊎◌, refl, sym, ap, subst}
use mathlib.Core.Logic.{inl, inr}
use Rattle.std.specs.Prelude.{IfOk, IfErr, IsOkAnd, IsErrAnd}
use Rattle.algorithm_policy.specs.Content.{Content}
use Rattle.token_check.specs.declared.fault.Check.{Check}
use Rattle.token_check.specs.declared.fault.TokenFault.{TokenFault}
use Rattle.token_check.specs.declared.fault.TokenFault.TheVariants as faults
use Rattle.token_check.specs.declared.token.CheckedStamp.{CheckedStamp}
use Rattle.token_check.specs.Sound.{Stamp, Sound, stamp_seen}
use Rattle.token_check.specs.Fault.{Fails, Blames}
use Rattle.token_check.proofs.Once.{says_once, fails_once, sound_passes}

abbrev Answer : Type 0
Answer = Result CheckedStamp TokenFault

module _ (policy : Content) (bytes : List ℕ) where
  pub only_sound : (r : Answer) → IfOk r (λ s. Sound policy bytes (stamp_seen s)) → IfErr r (Blames (Fails policy bytes)) → (stamp : Stamp) → Sound policy bytes stamp
      → IsOkAnd r (λ s. stamp_seen s ≡ stamp) ⊎ (r ≡ Err faults.Memory)
  only_sound (Ok s) sound fault stamp m = inl (says_once policy bytes (stamp_seen s) stamp sound m)
  only_sound (Err (faults.Check c)) sound fault stamp m = absurd (sound_passes policy bytes stamp c m fault)
  only_sound (Err faults.Memory) sound fault stamp m = inr refl

  pub refused_first : (r : Answer) → IfOk r (λ s. Sound policy bytes (stamp_seen s)) → IfErr r (Blames (Fails policy bytes)) → (c : Check) → Fails policy bytes c
      → (r ≡ Err (faults.Check c)) ⊎ (r ≡ Err faults.Memory)
  refused_first (Ok s) sound fault c h = absurd (sound_passes policy bytes (stamp_seen s) c sound h)
  refused_first (Err (faults.Check d)) sound fault c h = inl (ap (λ x. Err (faults.Check x)) (fails_once policy bytes d c fault h))
  refused_first (Err faults.Memory) sound fault c h = inr refl

-- A check that is made a fault is blamed by it.
pub check_blames : {X : Type 0} (P : Check → Type 0) (r : Result X TokenFault) (c : Check) → IsErrAnd r (λ f. f ≡ faults.Check c) → P c → IfErr r (Blames P)
check_blames P (Ok x) c is h = tt
check_blames P (Err f) c is h = subst (Blames P) (sym is) h

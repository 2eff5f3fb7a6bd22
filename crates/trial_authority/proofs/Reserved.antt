-- What a reserve says of an open state, as an authority tells of it.
use Rattle.std.proofs.Common.{◌≡◌, ⊎_elim, sym, ◌∙◌, ap, subst, ℕ, Bool, true, false, List, Result, Ok, Err, arith}
use Rattle.std.specs.Prelude.{IfOk, IfErr, OnOk}
use Rattle.std.proofs.lemmas.Bool.{cases_Bool}
use Rattle.ev_world.specs.Disk.{LeavesOnly}
use Rattle.ev_world.proofs.Moments.{started, weakly}
use Rattle.key_state.specs.declared.fault.StateFault.{StateFault}
use Rattle.key_state.specs.declared.fault.StateFault.TheVariants.{DiskFault, NotFormatted, WrongLength, Exhausted, Broken, Memory}
use Rattle.key_state.specs.View.{KeyStateView, IsUsedTo, IsState}
use Rattle.key_state.specs.Reserving.{IsReserved, IsNotReserved}
use Rattle.key_state.proofs.ReserveLemmas.{not_refused_whole, exhausted_spent, broken_so}
use Rattle.trial_authority.specs.Stamping.{IsMarkedTo}
use Rattle.trial_authority.specs.Inside.{Keeps}
use Rattle.trial_authority.specs.Stamping.{opened_of}

module _ {D : Type 0} (tells : Bool) (reads : D → List ℕ) (images : D → List ℕ → Type 0) (faults : D → ℕ) (old new : KeyStateView D) where
  pub reserved_whole : (r : Result ℕ StateFault) → IfOk r (λ i. IsReserved tells reads images old i new) → OnOk r (old.broken ≡ false)
  reserved_whole (Ok i) given = not_refused_whole old given.not_refused
  reserved_whole (Err e) given = tt

  keeps : (e : StateFault) → IsNotReserved faults old e new → Keeps (opened_of old) (opened_of new) old.leaves e
  keeps DiskFault broken = λ i. record { next = broken.next i; broken = broken.broken i }
  keeps Exhausted refused = record { same = ap opened_of refused.same; because = (exhausted_spent old refused.first).1 }
  keeps (Broken i) refused = record { same = ap opened_of refused.same; because = (broken_so old i refused.first).0 }
  keeps Memory refused = refused
  keeps (WrongLength n) refused = refused
  keeps NotFormatted refused = refused

  pub refused_keeps : (r : Result ℕ StateFault) → IfErr r (λ e. IsNotReserved faults old e new) → IfErr r (λ e. Keeps (opened_of old) (opened_of new) old.leaves e)
  refused_keeps (Ok i) refused = tt
  refused_keeps (Err e) refused = keeps e refused

  no_two : {b : Bool} → b ≡ false → b ≡ true → ⊥
  no_two {b} one two = absurd (let both : false ≡ true = sym one ∙ two in cc)

  same : (e : StateFault) → IsNotReserved faults old e new → old.broken ≡ true → new ≡ old
  same DiskFault by broken = absurd (no_two (not_refused_whole old by.not_refused) broken)
  same Exhausted refused broken = refused.same
  same (Broken i) refused broken = refused.same
  same Memory refused broken = absurd refused
  same (WrongLength n) refused broken = absurd refused
  same NotFormatted refused broken = absurd refused

  same_of : (r : Result ℕ StateFault) → IfOk r (λ i. IsReserved tells reads images old i new) → IfErr r (λ e. IsNotReserved faults old e new) → old.broken ≡ true → new ≡ old
  same_of (Ok i) given refused broken = absurd (no_two (not_refused_whole old given.not_refused) broken)
  same_of (Err e) given refused broken = same e refused broken

  -- what was marked so far is marked after it
  pub still_marked : (clock : D → ℕ) (since : D → ℕ → List ℕ → Type 0) (r : Result ℕ StateFault) → IfOk r (λ i. IsReserved tells reads images old i new) → IfErr r (λ e. IsNotReserved faults old e new)
      → IsState (reads old.disk) (images old.disk) old.leaves old.next old.broken → images old.disk (reads old.disk) → ((c : List ℕ) → since old.disk (clock old.disk) c → images old.disk c)
      → LeavesOnly clock since old.disk new.disk (IsUsedTo old.leaves old.next) → (n : ℕ) → ((c : List ℕ) → images old.disk c → IsMarkedTo n c) → LeavesOnly clock since old.disk new.disk (IsMarkedTo n)
  still_marked clock since r given refused state now only run n marked = ⊎_elim
      (λ broken. subst (λ (v : KeyStateView D). LeavesOnly clock since old.disk v.disk (IsMarkedTo n)) (sym (same_of r given refused broken)) (started clock since old.disk _ (λ c left. marked c (only c left))))
      (λ whole. weakly clock since old.disk new.disk _ _ run (λ c used. record {
        formatted = used.keys.starts;
        next = omega (arith, (marked (reads old.disk) now).next, state.exact whole, used.next);
      }))
      (cases_Bool old.broken)

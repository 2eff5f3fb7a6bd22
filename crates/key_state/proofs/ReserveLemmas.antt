-- What a reserve answers before it touches the disk.
use Rattle.std.proofs.Common.{◌≡◌, ⊎_elim, refl, ℕ, ◌≤◌, ◌<◌, Bool, true, false, Option, Some, None, sym, ◌∙◌}
use Rattle.std.specs.Prelude.{nat_le, if◌then◌else◌}
use Rattle.std.proofs.lemmas.Bool.{cases_Bool, leb-true, leb-false, le-leb, lt-leb}
use Rattle.key_state.specs.View.{KeyStateView}
use Rattle.key_state.specs.Reserving.{reserve_fault}
use Rattle.key_state.specs.declared.fault.StateFault.{StateFault}
use Rattle.key_state.specs.declared.fault.StateFault.TheVariants.{Exhausted, Broken}

-- the first fault, by whether the state is broken and whether each index is used
first : ℕ → Bool → Bool → Option StateFault
first next broken spent = if broken then Some (Broken next) else if spent then Some Exhausted else None

module _ {D : Type 0} (k : KeyStateView D) where
  by_tests : (broken spent : Bool) → k.broken ≡ broken → nat_le k.leaves k.next ≡ spent → reserve_fault k ≡ first k.next broken spent
  unfolding reserve_fault first
  by_tests broken spent b s = λ i. first k.next (b i) (s i)

  pub fault_broken : k.broken ≡ true → reserve_fault k ≡ Some (Broken k.next)
  unfolding first
  fault_broken broken = by_tests true (nat_le k.leaves k.next) broken refl

  pub fault_exhausted : k.broken ≡ false → k.leaves ≤ k.next → reserve_fault k ≡ Some Exhausted
  unfolding first
  fault_exhausted whole spent = by_tests false true whole (le-leb k.leaves k.next spent)

  pub fault_none : k.broken ≡ false → k.next < k.leaves → reserve_fault k ≡ None
  unfolding first
  fault_none whole left = by_tests false false whole (lt-leb k.leaves k.next left)

  pub not_refused_whole : reserve_fault k ≡ None → k.broken ≡ false
  not_refused_whole none = ⊎_elim (λ broken. absurd (let both = sym none ∙ fault_broken broken in cc)) (λ whole. whole) (cases_Bool k.broken)

  pub exhausted_spent : reserve_fault k ≡ Some Exhausted → (k.broken ≡ false) × (k.leaves ≤ k.next)
  exhausted_spent exhausted = ⊎_elim
      (λ broken. absurd (let both = sym exhausted ∙ fault_broken broken in cc))
      (λ whole. (
        whole,
        ⊎_elim
            (λ spent. leb-true k.leaves k.next spent)
            (λ left. absurd (let both = sym exhausted ∙ fault_none whole (leb-false k.leaves k.next left) in cc))
            (cases_Bool (nat_le k.leaves k.next)),
      ))
      (cases_Bool k.broken)

  pub broken_so : (i : ℕ) → reserve_fault k ≡ Some (Broken i) → (k.broken ≡ true) × (i ≡ k.next)
  broken_so i broken = ⊎_elim
      (λ is. (is, let both = sym broken ∙ fault_broken is in cc))
      (λ whole. absurd (⊎_elim
      (λ spent. let both = sym broken ∙ fault_exhausted whole (leb-true k.leaves k.next spent) in cc)
      (λ left. let both = sym broken ∙ fault_none whole (leb-false k.leaves k.next left) in cc)
      (cases_Bool (nat_le k.leaves k.next))))
      (cases_Bool k.broken)

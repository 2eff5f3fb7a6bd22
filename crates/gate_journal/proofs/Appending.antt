-- What an append answers before it touches the disk, and what its answer says of the journal.
use Rattle.std.proofs.Common.{◌≡◌, ⊎_elim, refl, ℕ, ◌≤◌, ◌<◌, Bool, true, false, length, Option, Some, None, sym, ◌∙◌, arith}
use Rattle.std.specs.Prelude.{nat_lt, if◌then◌else◌}
use Rattle.std.proofs.lemmas.Bool.{cases_Bool, ltb-true, ltb-false, lt-ltb, le-ltb}
use Rattle.gate_journal.specs.Journal.{max_journal}
use Rattle.gate_journal.specs.View.{View}
use Rattle.gate_journal.specs.Appending.{length_with, append_fault}
use Rattle.gate_journal.specs.declared.fault.JournalFault.{JournalFault}
use Rattle.gate_journal.specs.declared.fault.JournalFault.TheVariants.{Full, Broken}

-- the first fault, by whether the journal is broken and whether it would be too long
first : ℕ → ℕ → Bool → Bool → Option JournalFault
first number size broken long = if broken then Some (Broken number) else if long then Some (Full size) else None

module _ {D : Type 0} (j : View D) (n : ℕ) where
  by_tests : (broken long : Bool) → j.broken ≡ broken → nat_lt max_journal (length_with j n) ≡ long → append_fault j n ≡ first (length j.lengths) (length_with j n) broken long
  unfolding append_fault first
  by_tests broken long b l = λ i. first (length j.lengths) (length_with j n) (b i) (l i)

  pub fault_broken : j.broken ≡ true → append_fault j n ≡ Some (Broken (length j.lengths))
  unfolding first
  fault_broken broken = by_tests true (nat_lt max_journal (length_with j n)) broken refl

  pub fault_full : j.broken ≡ false → max_journal < length_with j n → append_fault j n ≡ Some (Full (length_with j n))
  unfolding first
  fault_full whole long = by_tests false true whole (lt-ltb max_journal (length_with j n) long)

  pub fault_none : j.broken ≡ false → length_with j n ≤ max_journal → append_fault j n ≡ None
  unfolding first
  fault_none whole short = by_tests false false whole (le-ltb max_journal (length_with j n) short)

  -- an append that isn't refused: the journal is whole, and has room
  pub not_refused_whole : append_fault j n ≡ None → j.broken ≡ false
  not_refused_whole none = ⊎_elim (λ broken. absurd (let both = sym none ∙ fault_broken broken in cc)) (λ whole. whole) (cases_Bool j.broken)

  pub not_refused_short : append_fault j n ≡ None → length_with j n ≤ max_journal
  not_refused_short none = ⊎_elim (λ long. absurd (let both = sym none ∙ fault_full (not_refused_whole none) (ltb-true max_journal (length_with j n) long) in cc)) (λ short. ltb-false max_journal (length_with j n) short)
      (cases_Bool (nat_lt max_journal (length_with j n)))

  -- what is refused as full is whole, and would be as long as it says
  pub full_whole : (k : ℕ) → append_fault j n ≡ Some (Full k) → j.broken ≡ false
  full_whole k full = ⊎_elim (λ broken. absurd (let both = sym full ∙ fault_broken broken in cc)) (λ whole. whole) (cases_Bool j.broken)

  pub full_long : (k : ℕ) → append_fault j n ≡ Some (Full k) → (k ≡ length_with j n) × (max_journal < k)
  full_long k full = ⊎_elim
      (λ long. let at = ltb-true max_journal (length_with j n) long in let same : k ≡ length_with j n = (let both = sym full ∙ fault_full (full_whole k full) at in cc) in (same, omega (arith, same, at)))
      (λ short. absurd (let both = sym full ∙ fault_none (full_whole k full) (ltb-false max_journal (length_with j n) short) in cc))
      (cases_Bool (nat_lt max_journal (length_with j n)))

  -- what is refused as broken is broken, and names the frame behind the last
  pub broken_so : (k : ℕ) → append_fault j n ≡ Some (Broken k) → (j.broken ≡ true) × (k ≡ length j.lengths)
  broken_so k broken = ⊎_elim
      (λ is. (is, let both = sym broken ∙ fault_broken is in cc))
      (λ whole. absurd (⊎_elim
      (λ long. let both = sym broken ∙ fault_full whole (ltb-true max_journal (length_with j n) long) in cc)
      (λ short. let both = sym broken ∙ fault_none whole (ltb-false max_journal (length_with j n) short) in cc)
      (cases_Bool (nat_lt max_journal (length_with j n)))))
      (cases_Bool j.broken)

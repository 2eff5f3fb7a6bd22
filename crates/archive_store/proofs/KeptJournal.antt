-- Reads alone of a journal, one after another.
use Rattle.std.proofs.Common.{ℕ, Bool, IsTrue, List, refl, ◌∙◌, arith}
use Rattle.ev_world.proofs.QuietCalls.{quiet_none, quiet_then}
use Rattle.gate_journal.specs.View.{View, IsKept}

module _ {D : Type 0} (tells : Bool) (reads : D → List ℕ) (images : D → List ℕ → Type 0) (clock : D → ℕ) (since : D → ℕ → List ℕ → Type 0) (faults : D → ℕ) where
  -- no call of the disk
  pub kept_none : (j : View D) → ((c : List ℕ) → IsTrue tells → since j.disk (clock j.disk) c → images j.disk c) → IsKept tells reads images clock since faults j j
  kept_none j only = record {
    lengths = refl;
    payloads = λ known. refl;
    spare = refl;
    broken = refl;
    quiet = λ known. quiet_none reads images clock since j.disk (λ c left. only c known left);
    later = omega arith;
  }

  pub kept_then : (old mid new : View D) → IsKept tells reads images clock since faults old mid → IsKept tells reads images clock since faults mid new
      → IsKept tells reads images clock since faults old new
  kept_then old mid new first second = record {
    lengths = second.lengths ∙ first.lengths;
    payloads = λ known. second.payloads known ∙ first.payloads known;
    spare = second.spare ∙ first.spare;
    broken = second.broken ∙ first.broken;
    quiet = λ known. quiet_then reads images clock since old.disk mid.disk new.disk (first.quiet known) (second.quiet known);
    later = omega (arith, first.later, second.later);
  }

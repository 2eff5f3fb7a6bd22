-- How a run of device calls goes on.
use Rattle.std.proofs.Common.{inl, inr, ⊎_elim, ℕ, List, arith}
use Rattle.ev_world.specs.Disk.{Elapses, LeavesOnly}

module _ {D : Type 0} (clock : D → ℕ) (since : D → ℕ → List ℕ → Type 0) where
  -- before the first call
  pub started : (old : D) (P : List ℕ → Type 0) → ((c : List ℕ) → since old (clock old) c → P c) → LeavesOnly clock since old old P
  started old P here = record { later = omega arith; each = here; before = λ t c le left. inl left }

  -- one call more, after which a crash leaves what has P
  pub goes_on : (old mid new : D) (P images : List ℕ → Type 0) → LeavesOnly clock since old mid P → Elapses (clock mid) (clock new) (since mid) (since new) images
      → ((c : List ℕ) → images c → P c) → LeavesOnly clock since old new P
  goes_on old mid new P images so_far time here = record {
    later = omega (arith, so_far.later, time.counts);
    each = λ c left. ⊎_elim (so_far.each c) (here c) (time.nothing_else (clock old) c so_far.later left);
    before = λ t c le left. ⊎_elim (so_far.before t c le) (λ now. inr (here c now)) (time.nothing_else t c (omega (arith, le, so_far.later)) left);
  }

  -- a run after a run
  pub follows_on : (old mid new : D) (P Q : List ℕ → Type 0) → LeavesOnly clock since old mid P → LeavesOnly clock since mid new Q
      → ((c : List ℕ) → Q c → P c) → LeavesOnly clock since old new P
  follows_on old mid new P Q first second here = record {
    later = omega (arith, first.later, second.later);
    each = λ c left. ⊎_elim (first.each c) (here c) (second.before (clock old) c first.later left);
    before = λ t c le left. ⊎_elim (first.before t c le) (λ q. inr (here c q)) (second.before t c (omega (arith, le, first.later)) left);
  }

  -- the same run, said more weakly
  pub weakly : (old new : D) (P Q : List ℕ → Type 0) → LeavesOnly clock since old new Q → ((c : List ℕ) → Q c → P c) → LeavesOnly clock since old new P
  weakly old new P Q run here = record {
    later = run.later;
    each = λ c left. here c (run.each c left);
    before = λ t c le left. ⊎_elim (λ was. inl was) (λ q. inr (here c q)) (run.before t c le left);
  }

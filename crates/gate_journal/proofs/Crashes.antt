-- What a crash leaves of a frame, and of an empty journal.
use Rattle.std.proofs.Common.{◌⊎◌, inl, ℕ, ◌+◌, ◌≤◌, List, [], ◌∷◌, ◌++◌, length, drop, sym, ◌∙◌, ap, subst, arith}
use Rattle.ev_world.specs.Disk.{Holds, Torn, After, Only, LeavesOnly}
use Rattle.ev_world.proofs.Moments.{weakly, follows_on}
use Rattle.gate_journal.specs.Journal.{max_payload, max_journal, body, Reads}
use Rattle.gate_journal.specs.Inside.{IsAtRest, IsClosed}
use Rattle.gate_journal.proofs.FrameBytes.{torn_behind, torn_gate}
use Rattle.gate_journal.proofs.EmptyJournal.{zeros}

-- a frame is put behind a closed gate, then the gate is opened
module _ {D : Type 0} (clock : D → ℕ) (since : D → ℕ → List ℕ → Type 0) (images : D → List ℕ → Type 0) (reads : D → List ℕ)
    (old mid new : D) (end : ℕ) (h : List (List ℕ)) (rest : IsAtRest (reads old) end h) (settled : Only (reads old) (images old)) (p : List ℕ) where
  abbrev Either : List ℕ → Type 0
  Either c = Reads c h ⊎ Reads c (h ++ p ∷ [])

  behind : (n : ℕ) (c : List ℕ) → After (Torn (end + 1) n) (images old) c → Reads c h
  behind n c after = torn_behind _ end h rest p n c (subst (λ (d : List ℕ). Torn (end + 1) n d c) (settled after.0 after.1) after.2)

  pub first_moment : (n : ℕ) → LeavesOnly clock since old mid (After (Torn (end + 1) n) (images old)) → LeavesOnly clock since old mid Either
  first_moment n run = weakly clock since old mid Either _ run (λ c after. inl (behind n c after))

  pub second_moment : (n : ℕ) → LeavesOnly clock since old mid (After (Torn (end + 1) n) (images old))
      → Holds (reads old) (end + 1) (body p ++ 0 ∷ []) (reads mid) → Only (reads mid) (images mid)
      → length p ≤ max_payload → end + length p + 38 ≤ max_journal
      → LeavesOnly clock since mid new (After (Torn end 1) (images mid)) → LeavesOnly clock since old new Either
  second_moment n run holds only size limit gate = follows_on clock since old mid new Either _ (first_moment n run) gate
      (λ c after. torn_gate _ end h rest p _ holds size limit c (subst (λ (d : List ℕ). Torn end 1 d c) (only after.0 after.1) after.2))

-- a run that ends now: what a crash leaves now is among what it might have left
pub left_now : {D : Type 0} (clock : D → ℕ) (since : D → ℕ → List ℕ → Type 0) (images : D → List ℕ → Type 0) (old new : D) (P : List ℕ → Type 0)
    → ((t : ℕ) (c : List ℕ) → t ≤ clock new → images new c → since new t c) → LeavesOnly clock since old new P → (c : List ℕ) → images new c → P c
left_now clock since images old new P counts run c now = run.each c (counts (clock old) c run.later now)

-- the gate behind zeros is closed
pub zeros_closed : (old b : List ℕ) (images : List ℕ → Type 0) → Holds old 0 zeros b → Only b images → (c : List ℕ) → images c → IsClosed (drop 16 c)
zeros_closed old b images holds only c now = record {
  gate = 0;
  rest = drop 17 old;
  is = ap (drop 16) (only c now ∙ holds.is);
  closed = omega arith;
}

-- and stays so while the header is written
pub header_closed : (images : List ℕ → Type 0) → ((c : List ℕ) → images c → IsClosed (drop 16 c)) → (c : List ℕ) → After (Torn 0 16) images c → IsClosed (drop 16 c)
header_closed images closed c after = subst IsClosed (sym after.2.after) (closed after.0 after.1)

-- Worked values of the definitions, so that a wrong rule in the specs does not check.
use Rattle.std.proofs.Common.{◌≡◌, ℕ, ◌-◌, ◌^◌, List, [], ◌∷◌, get_or, refl, ap, arith}
use Rattle.ev_world.specs.Causes.{Rose}
use Rattle.ev_world.specs.Disk.{Holds, Torn}

-- a count that stands still has not risen, but at the end of its type
rises : Rose 7 8
rises = omega arith

stands_still : Rose 7 7 → ⊥
stands_still rose = omega arith

at_the_end : Rose (2 ^ 64 - 1) (2 ^ 64 - 1)
at_the_end = omega arith

abbrev old : List ℕ
old = 1 ∷ 2 ∷ 3 ∷ []

-- over the end
over_the_end : Holds old 2 (8 ∷ 9 ∷ []) (1 ∷ 2 ∷ 8 ∷ 9 ∷ [])
over_the_end = record { is = refl }

-- within
within : Holds old 1 (9 ∷ []) (1 ∷ 9 ∷ 3 ∷ [])
within = record { is = refl }

-- a write over the end that was cut short within its second byte
cut_short : Torn 2 2 old (1 ∷ 2 ∷ 8 ∷ [])
cut_short = record { before = refl; after = refl; no_shorter = omega arith; no_longer = omega arith }

-- a write that was cut short keeps what stands before it
not_before : Torn 2 2 old (1 ∷ 7 ∷ 8 ∷ []) → ⊥
not_before torn = let seven : ℕ = 7 in let wrong : seven ≡ 2 = ap (λ (l : List ℕ). get_or l 1 0) torn.before in omega (arith, wrong)

-- and does not cut the file off
not_shorter : Torn 2 2 old (1 ∷ 2 ∷ []) → ⊥
not_shorter torn = omega (arith, torn.no_shorter)

-- over a shorter image of the disk, a write that begins past its end leaves any bytes between
past_the_end : Torn 4 1 old (1 ∷ 2 ∷ 3 ∷ 7 ∷ 9 ∷ [])
past_the_end = record { before = refl; after = refl; no_shorter = omega arith; no_longer = omega arith }

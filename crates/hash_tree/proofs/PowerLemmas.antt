-- Where a tree is split: the largest power of two below the number of its leaves.
use Rattle.std.proofs.Common.{◌≡◌, ℕ, zero, suc, ◌+◌, ◌*◌, ◌/◌, ◌^◌, ◌<◌, ◌≤◌, Bool, true, false, refl, sym, ap, ◌∙◌, arith, if◌then◌else◌}
use Rattle.std.specs.Prelude.{nat_lt}
use Rattle.std.proofs.lemmas.Bool.{ltb-true, ltb-false, lt-ltb, le-ltb, cond_both}
use Rattle.hash_tree.specs.Tree.{power_within, power_below}

pub by_test : {G : Type 0} (b : Bool) → (b ≡ true → G) → (b ≡ false → G) → G
by_test true f g = f refl
by_test false f g = g refl

pub power_low : (f n : ℕ) → 1 ≤ power_within f n
unfolding power_within
power_low zero n = omega arith
power_low (suc f) n =
    cond_both (nat_lt 2 n) (2 * power_within f ((n + 1) / 2)) 1 (λ x. 1 ≤ x) (λ e. omega (arith, power_low f ((n + 1) / 2))) (λ e. omega arith)

pub power_under : (f n : ℕ) → 2 ≤ n → power_within f n < n
unfolding power_within
power_under zero n h = omega (arith, h)
power_under (suc f) n h =
    cond_both (nat_lt 2 n) (2 * power_within f ((n + 1) / 2)) 1 (λ x. x < n)
    (λ e. let t = ltb-true 2 n e in let u : 2 ≤ (n + 1) / 2 = omega (arith, t) in omega (arith, t, power_under f ((n + 1) / 2) u)) (λ e. omega (arith, h))

small_power : (f n : ℕ) → n ≤ 2 → power_within f n ≡ 1
unfolding power_within
small_power zero n h = refl
small_power (suc f) n h = ap (λ (b : Bool). if b then 2 * power_within f ((n + 1) / 2) else 1) (le-ltb 2 n h)

power_twice : (f n : ℕ) → 2 < n → power_within (suc f) n ≡ 2 * power_within f ((n + 1) / 2)
unfolding power_within
power_twice f n h = ap (λ (b : Bool). if b then 2 * power_within f ((n + 1) / 2) else 1) (lt-ltb 2 n h)

-- more fuel changes nothing
power_fuel : (f g n : ℕ) → n ≤ f → n ≤ g → power_within f n ≡ power_within g n
power_fuel zero g n hf hg = small_power zero n (omega (arith, hf)) ∙ sym (small_power g n (omega (arith, hf)))
power_fuel (suc f) zero n hf hg = small_power (suc f) n (omega (arith, hg)) ∙ sym (small_power zero n (omega (arith, hg)))
power_fuel (suc f) (suc g) n hf hg =
    by_test (nat_lt 2 n)
    (λ e. let t = ltb-true 2 n e in
    power_twice f n t ∙ ap (λ (k : ℕ). 2 * k) (power_fuel f g ((n + 1) / 2) (omega (arith, t, hf)) (omega (arith, t, hg))) ∙ sym (power_twice g n t))
    (λ e. let t = ltb-false 2 n e in small_power (suc f) n t ∙ sym (small_power (suc g) n t))

-- the split of a level is twice that of the level above
pub power_step : (n m : ℕ) → m ≡ (n + 1) / 2 → 2 < n → power_below n ≡ 2 * power_below m
power_step zero m e h = absurd (none h)
  where
    none : 2 < 0 → ⊥
    none h = omega (arith, h)
power_step (suc n) m e h =
    power_twice n (suc n) h
    ∙ ap (λ (k : ℕ). 2 * power_within n k) (sym e)
    ∙ ap (λ (k : ℕ). 2 * k) (power_fuel n m m (omega (arith, e, h)) (omega arith))

pub power_high : (f n : ℕ) → n ≤ f → n ≤ 2 * power_within f n
power_high zero n h = omega (arith, h)
power_high (suc f) n h =
    by_test (nat_lt 2 n)
    (λ e. let t = ltb-true 2 n e in omega (arith, t, power_twice f n t, power_high f ((n + 1) / 2) (omega (arith, t, h))))
    (λ e. let t = ltb-false 2 n e in omega (arith, t, small_power (suc f) n t))

pub is_power : (f n : ℕ) → (k : ℕ) × (power_within f n ≡ 2 ^ k)
unfolding power_within
is_power zero n = (0, refl)
is_power (suc f) n =
    cond_both (nat_lt 2 n) (2 * power_within f ((n + 1) / 2)) 1 (λ x. (k : ℕ) × (x ≡ 2 ^ k))
    (λ e. let p = is_power f ((n + 1) / 2) in (suc p.0, ap (λ (x : ℕ). 2 * x) p.1 ∙ two p.0)) (λ e. (0, refl))
  where
    two : (k : ℕ) → 2 * 2 ^ k ≡ 2 ^ suc k
    two k = omega arith

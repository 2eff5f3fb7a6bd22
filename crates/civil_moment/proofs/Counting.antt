-- The library's day number, from 1970 on, is the one that is counted here, and it takes the same dates.
use Rattle.std.proofs.Common.{◌≡◌, ℕ, zero, suc, ◌+◌, ◌-◌, ◌≤◌, true, false, ◌&&◌, ℤ, pos, ◌+ℤ◌, ◌-ℤ◌, sym, ap, refl, ◌∙◌, subst, arith}
use Rattle.std.specs.Prelude.{unsigned_abs, nat_le, unwrap_or, is_some, IfOk, Some, Ok, Err, Result}
use Rattle.std.specs.Result.{result_ok}
use Rattle.std.proofs.lemmas.Bool.Decides.{nat_tests}
use Rattle.std.proofs.lemmas.Int.{ints}
use Rattle.jiff_core.specs.Calendar.{days_of_years as years_from_start, days_of_months as months_there, days_in_year as year_there, day_count, days_from_civil, IsDate}
use Rattle.jiff_core.specs.Date.{epoch_day, IsYmd}
use Rattle.jiff_core.specs.declared.civil.date.Date.{Date}
use Rattle.civil_moment.specs.Calendar.{is_date, days_of_years, days_of_months, days_in_year, days_in_month, day_number}

years_on : (b n : ℕ) → b ≡ 11970 → years_from_start (b + n) ≡ years_from_start b + days_of_years n
unfolding years_from_start days_of_years
years_on b zero e =
    let z : b + 0 ≡ b = omega arith in
    subst (λ k. years_from_start k ≡ years_from_start b + 0) (sym z) (omega arith)
years_on b (suc n) e =
    let z : b + suc n ≡ suc (b + n) = omega arith in
    let h = years_on b n e in
    let k : pos (b + n) -ℤ pos 10000 ≡ pos (1970 + n) = omega (arith, ints) in
    let y : year_there (pos (b + n) -ℤ pos 10000) ≡ days_in_year (1970 + n) = ap year_there k in
    subst (λ k. years_from_start k ≡ years_from_start b + (days_of_years n + days_in_year (1970 + n))) (sym z) (omega (arith, h, y))

months_on : (y n : ℕ) → months_there (pos y) n ≡ days_of_months y n
unfolding months_there days_of_months
months_on y zero = refl
months_on y (suc n) = let h = months_on y n in ap (λ k. k + days_in_month y (suc n)) h

counted_from : (b y m d : ℕ) → b ≡ 11970 → 1970 ≤ y → 1 ≤ d → day_count (pos y) m d ≡ years_from_start b + day_number y m d
unfolding day_count day_number
counted_from b y m d e from first =
    let a : unsigned_abs (pos y +ℤ pos 10000) ≡ b + (y - 1970) = omega (arith, ints) in
    let h = ap years_from_start a ∙ years_on b (y - 1970) e in
    let k = months_on y (m - 1) in
    omega (arith, h, k)

pub counted : (y m d : ℕ) → 1970 ≤ y → 1 ≤ d → days_from_civil (pos y) m d ≡ pos (day_number y m d)
unfolding days_from_civil day_number days_of_years days_of_months
counted y m d from first =
    let a = counted_from 11970 y m d refl from first in
    let b = counted_from 11970 1970 1 1 refl (omega arith) (omega arith) in
    let z : day_number 1970 1 1 ≡ 0 = refl in
    omega (arith, ints, a, b, z)

-- ---- what the constructor takes

tests : (y m d k : ℕ) → (nat_le 1970 y && nat_le y 9999 && nat_le 1 m && nat_le m 12 && nat_le 1 d && nat_le d k) ≡ true → (1970 ≤ y) × (y ≤ 9999) × (1 ≤ m) × (m ≤ 12) × (1 ≤ d) × (d ≤ k)
tests y m d k h = grind (arith, nat_tests)

tested : (y m d k : ℕ) → (1970 ≤ y) × (y ≤ 9999) × (1 ≤ m) × (m ≤ 12) × (1 ≤ d) × (d ≤ k) → (nat_le 1970 y && nat_le y 9999 && nat_le 1 m && nat_le m 12 && nat_le 1 d && nat_le d k) ≡ true
tested y m d k h = grind (arith, nat_tests)

pub date_tells : (y m d : ℕ) → is_date y m d ≡ true → (1970 ≤ y) × (y ≤ 9999) × (1 ≤ m) × (m ≤ 12) × (1 ≤ d) × (d ≤ days_in_month y m)
date_tells y m d h = tests y m d (days_in_month y m) h

pub date_told : (y m d : ℕ) → (1970 ≤ y) × (y ≤ 9999) × (1 ≤ m) × (m ≤ 12) × (1 ≤ d) × (d ≤ days_in_month y m) → is_date y m d ≡ true
date_told y m d h = tested y m d (days_in_month y m) h

pub taken : (y m d : ℕ) (yz mz dz : ℤ) → yz ≡ pos y → mz ≡ pos m → dz ≡ pos d → 1970 ≤ y → IsDate yz mz dz → is_date y m d ≡ true
taken y m d yz mz dz ey em ed from h =
    let g = subst (λ z. IsDate z (pos m) (pos d)) ey (subst (λ z. IsDate yz z (pos d)) em (subst (λ z. IsDate yz mz z) ed h)) in
    date_told y m d (from, omega (arith, ints, g.0.1), omega (arith, ints, g.1.0), omega (arith, ints, g.1.1), omega (arith, ints, g.2.0), omega (arith, ints, g.2.1))

pub known : (d : Date) (y m k : ℕ) (yz mz dz days : ℤ) → yz ≡ pos y → mz ≡ pos m → dz ≡ pos k → 1970 ≤ y → 1 ≤ k → IsYmd yz mz dz d → days ≡ epoch_day d → days ≡ pos (day_number y m k)
known d y m k yz mz dz days ey em ed from first is e =
    let month : d.month ≡ m = omega (arith, ints, is.1) in
    let day : d.day ≡ k = omega (arith, ints, is.2) in
    e ∙ (λ i. days_from_civil ((is.0 ∙ ey) i) (month i) (day i)) ∙ counted y m k from first

-- the value of an `Ok` that became a `Some`
pub value_of : {T E : Type 0} (P : T → Type 0) (r : Result T E) (x : T) → Some x ≡ result_ok r → IfOk r P → P x
value_of P (Ok y) x e h = subst P (sym (ap (λ o. unwrap_or o x) e)) h
value_of P (Err f) x e h = absurd (some_or_none (ap is_some e))
  where
    some_or_none : true ≡ false → ⊥
    some_or_none q = cc

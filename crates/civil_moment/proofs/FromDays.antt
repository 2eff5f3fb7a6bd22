-- The date of a day number from 0 on is one from 1970 on, with that number.
use Rattle.std.proofs.Common.{◌≡◌, ℕ, ◌<◌, ◌≤◌, Bool, true, false, ℤ, pos, negsuc, ◌+ℤ◌, ◌≤ℤ◌, ◌<ℤ◌, to_z, of_z, w16, sym, ap, refl, ◌∙◌, subst, arith}
use Rattle.std.specs.Prelude.{nat_le, unsigned_abs, ◌+◌}
use Rattle.std.proofs.lemmas.Int.{ints}
use Rattle.std.proofs.lemmas.Bool.Decides.{nat_tests}
use Rattle.jiff_core.specs.Calendar.{days_from_civil, days_in_month as month_there}
use Rattle.jiff_core.specs.Date.{epoch_day}
use Rattle.jiff_core.specs.declared.civil.date.Date.{Date}
use Rattle.jiff_core.proofs.CalendarLemmas.{day_count-lt_year, day_count-epoch}
use Rattle.jiff_core.proofs.DateLemmas.{civil}
use Rattle.civil_moment.specs.Calendar.{is_date, days_in_month, day_number}
use Rattle.civil_moment.proofs.Counting.{counted, date_told}

year_cases : {G : Type 0} (z : ℤ) → ((n : ℕ) → z ≡ pos n → 1970 ≤ n → G) → (z <ℤ pos 1970 → G) → G
year_cases {G} (pos n) late early = by_test (nat_le 1970 n) refl
  where
    by_test : (b : Bool) → nat_le 1970 n ≡ b → G
    by_test true e = late n refl (grind (arith, nat_tests))
    by_test false e = early (let h : n < 1970 = grind (arith, nat_tests) in omega (arith, ints))
year_cases (negsuc n) late early = early (omega (arith, ints))

before_1970 : (d : Date) → d.year <ℤ pos 1970 → epoch_day d <ℤ pos 0
unfolding days_from_civil
before_1970 d early =
    let low = day_count-lt_year d.year d.month d.day (pos 1970) 1 1 (civil d) (omega arith) early in
    omega (arith, ints, low, day_count-epoch)

year_from : (d : Date) → pos 0 ≤ℤ epoch_day d → (n : ℕ) × (d.year ≡ pos n) × (1970 ≤ n)
year_from d first =
    year_cases d.year (λ n e late. (n, e, late)) (λ early. let h = before_1970 d early in absurd (omega (arith, ints, h, first)))

year_cast : (d : Date) → to_z w16 (of_z w16 d.year) ≡ d.year
year_cast d = let h = d.year_in in omega (arith, ints, h)

pub record Dated (year month day days : ℕ) : Type 0 where
  pub date : is_date year month day ≡ true
  pub number : day_number year month day ≡ days

dated : (d : Date) (n days : ℕ) → d.year ≡ pos n → 1970 ≤ n → epoch_day d ≡ pos days → Dated n d.month d.day days
dated d n days e late is =
    let c = civil d in
    let last : d.day ≤ days_in_month n d.month = subst (λ z. d.day ≤ month_there z d.month) e c.2.1 in
    let top : n ≤ 9999 = (let h = subst (λ z. z ≤ℤ pos 9999) e c.0.1 in omega (arith, ints, h)) in
    let same = sym (counted n d.month d.day late c.2.0) ∙ ap (λ z. days_from_civil z d.month d.day) (sym e) ∙ is in
    record {
      date = date_told n d.month d.day (late, top, c.1.0, c.1.1, c.2.0, last);
      number = omega (arith, ints, same);
    }

-- the parts of the library's date, the year by its absolute value
pub parts_dated : (d : Date) (year days : ℕ) → year ≡ unsigned_abs (to_z w16 (of_z w16 d.year)) → epoch_day d +ℤ pos 4371587 ≡ pos (days + 4371587) → Dated year d.month d.day days
parts_dated d year days e is =
    let day : epoch_day d ≡ pos days = omega (arith, ints, is) in
    let y = year_from d (omega (arith, ints, day)) in
    let same : year ≡ y.0 = e ∙ ap unsigned_abs (year_cast d ∙ y.1) in
    subst (λ n. Dated n d.month d.day days) (sym same) (dated d y.0 days y.1 y.2 day)

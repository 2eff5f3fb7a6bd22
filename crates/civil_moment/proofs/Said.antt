-- A text without a fault says a moment: its date and time come before the year 10000, its fraction is below a second.
use Rattle.std.proofs.Common.{◌≡◌, ℕ, zero, suc, ◌+◌, ◌-◌, ◌*◌, ◌<◌, ◌≤◌, ◌⊎◌, inl, inr, Bool, true, false, not, nat_lt, nat_le, cond, List, [], ◌∷◌, ◌++◌, length, replicate, Option, Some, None, pos, refl, ap, arith}
use Rattle.std.specs.Cmp.{second_so}
use Rattle.std.proofs.Math.Nat.{mul-le-mul_right}
use Rattle.std.proofs.lemmas.Bool.{and_parts, leb-true, ltb-true}
use Rattle.std.proofs.lemmas.Int.{ints}
use Rattle.civil_moment.specs.declared.moment.Moment.{Moment}
use Rattle.civil_moment.specs.declared.fault.TimeFault.{TimeFault}
use Rattle.civil_moment.specs.declared.fault.TimeFault.TheVariants.{Shape, Fraction, Range}
use Rattle.civil_moment.specs.Calendar.{is_leap, days_in_year, days_in_month, days_of_years, days_of_months, day_number, is_date}
use Rattle.civil_moment.specs.Moment.{Text, are_digits, number_on, is_civil, is_fraction, seconds_of, nanos_of, year_of, month_of, day_of, hour_of, minute_of, second_of}
use Rattle.civil_moment.specs.Fault.{has_shape, fields_in, fraction_in, first_fault}
use Rattle.civil_moment.proofs.Counting.{date_tells}
use Rattle.civil_moment.proofs.FirstFault.{read-text}
use Rattle.civil_moment.proofs.Shape.{pieces}
use Rattle.civil_moment.proofs.Unique.{time_tells, filled_length, filled_digits}

-- ---- days

last : (n m : ℕ) → n ≤ suc m → (n ≤ m) ⊎ (n ≡ suc m)
last n m h = grind arith

years_up : (n m : ℕ) → n ≤ m → days_of_years n ≤ days_of_years m
unfolding days_of_years
years_up n zero h = let e : n ≡ 0 = omega arith in rw e (omega arith)
years_up n (suc m) h = elim (last n m h) [ inl below ↦ (let up = years_up n m below in omega arith) | inr same ↦ rw same (omega arith) ]

months_up : (year n m : ℕ) → n ≤ m → days_of_months year n ≤ days_of_months year m
unfolding days_of_months
months_up year n zero h = let e : n ≡ 0 = omega arith in rw e (omega arith)
months_up year n (suc m) h = elim (last n m h) [ inl below ↦ (let up = months_up year n m below in omega arith) | inr same ↦ rw same (omega arith) ]

year_total : (year : ℕ) → days_of_months year 12 ≡ days_in_year year
unfolding days_of_months
year_total year = by_leap (is_leap year)
  where
    by_leap : (b : Bool) → 31 + cond b 29 28 + 31 + 30 + 31 + 30 + 31 + 31 + 30 + 31 + 30 + 31 ≡ cond b 366 365
    by_leap true = refl
    by_leap false = refl

all_years : days_of_years 8030 ≡ 2932897
unfolding days_of_years
all_years = refl

-- the days of whole years, of whole months and of the month
day_below : (n k d : ℕ) → n ≤ 8029 → k < 12 → 1 ≤ d → d ≤ days_in_month (1970 + n) (suc k) → days_of_years n + days_of_months (1970 + n) k + (d - 1) ≤ 2932896
unfolding days_of_years days_of_months
day_below n k d years months some most =
    let up = months_up (1970 + n) (suc k) 12 (omega arith) in
    let total = year_total (1970 + n) in
    let whole = years_up (suc n) 8030 (omega arith) in
    let all = all_years in
    omega (arith, up, total, whole, all)

day_number_below : (year month day : ℕ) → is_date year month day ≡ true → day_number year month day ≤ 2932896
unfolding day_number
day_number_below year month day h =
    let t = date_tells year month day h in
    at (year - 1970) (month - 1) year month (omega (arith, t.0)) (omega (arith, t.2)) t.1 t.3 t.4 t.5
  where
    at : (n k year month : ℕ) → year ≡ 1970 + n → month ≡ suc k → year ≤ 9999 → month ≤ 12 → 1 ≤ day → day ≤ days_in_month year month
        → days_of_years (year - 1970) + days_of_months year (month - 1) + (day - 1) ≤ 2932896
    at n k year month e f until most first last =
        let years : year - 1970 ≡ n = omega arith in
        let months : month - 1 ≡ k = omega arith in
        rw (years, months, e) (day_below n k day (omega arith) (omega arith) first (rw (e, f) at last))

seconds_below : (fields : List ℕ) → is_civil fields ≡ true → seconds_of fields ≤ 253402300799
seconds_below fields h =
    let p = and_parts (is_date (year_of fields) (month_of fields) (day_of fields)) _ h in
    let days = day_number_below (year_of fields) (month_of fields) (day_of fields) p.0 in
    let times = time_tells (hour_of fields) (minute_of fields) (second_of fields) p.1 in
    bound (day_number (year_of fields) (month_of fields) (day_of fields)) (hour_of fields) (minute_of fields) (second_of fields) days times.hour times.minute times.second
  where
    bound : (d h m s : ℕ) → d ≤ 2932896 → h < 24 → m < 60 → s < 60 → 86400 * d + (3600 * h + 60 * m + s) ≤ 253402300799
    bound d h m s a b c e = omega arith

-- ---- billionths

tens : ℕ → ℕ
tens zero = 1
tens (suc n) = 10 * tens n

number_below : (n : ℕ) (digits : List ℕ) → are_digits digits ≡ true → number_on n digits < (n + 1) * tens (length digits)
unfolding tens
number_below n [] h = omega arith
number_below n (d ∷ digits) h =
    let p = and_parts (nat_lt d 10) (are_digits digits) h in
    let small = ltb-true d 10 p.0 in
    let more = number_below (n * 10 + d) digits p.1 in
    let grown = mul-le-mul_right (tens (length digits)) (up n d small) in
    omega (arith, more, grown)
  where
    up : (n d : ℕ) → d < 10 → n * 10 + d + 1 ≤ (n + 1) * 10
    up n d h = omega arith

nine : tens 9 ≡ 1000000000
unfolding tens
nine = refl

nanos_below : (fraction : List ℕ) → are_digits fraction ≡ true → is_fraction fraction ≡ true → nanos_of fraction < 1000000000
nanos_below fraction digits h =
    let few = leb-true (length fraction) 9 (and_parts (nat_le (length fraction) 9) _ h).0 in
    let below = number_below 0 (fraction ++ replicate (9 - length fraction) 0) (filled_digits fraction digits) in
    omega (arith, below, ap tens (filled_length fraction few), nine)

-- ---- the moment

none_wrong : (a b c : Bool) → ◌≡◌ {A = Option TimeFault} (cond (not a) (Some Shape) (cond (not b) (Some Fraction) (cond (not c) (Some Range) None))) None → (a ≡ true) × (b ≡ true) × (c ≡ true)
none_wrong true true true h = (refl, refl, refl)
none_wrong true true false h = cc h
none_wrong true false c h = cc h
none_wrong false b c h = cc h

pub said : (text : List ℕ) → first_fault text ≡ None → (moment : Moment) × Text text moment
said text h =
    let p = none_wrong (has_shape text) (is_fraction (fraction_in text)) (is_civil (fields_in text)) h in
    let seconds = seconds_below (fields_in text) p.2 in
    let digits = second_so (are_digits (fields_in text)) (are_digits (fraction_in text)) (pieces text p.0).digits in
    let nanos = nanos_below (fraction_in text) digits p.1 in
    let moment : Moment = record {
      seconds = pos (seconds_of (fields_in text));
      nanos = nanos_of (fraction_in text);
      from_1970 = omega (arith, ints);
      until_9999 = omega (arith, ints);
      below_second = nanos;
    } in
    (moment, read-text text moment p.0 p.1 p.2 refl refl)

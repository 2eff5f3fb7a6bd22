-- Generalized time in the one form that DER allows (X.690, 11.7), and the moment that it says.
use Rattle.std.specs.Prelude.{◌≡◌, ℕ, ◌+◌, ◌-◌, ◌*◌, Bool, not, ◌&&◌, nat_eq, nat_lt, nat_le, IsTrue, List, [], ◌∷◌, ◌++◌, length, take, drop, map, replicate, pos, codes}
use Rattle.std.specs.List.{list_all, ends_with}
use Rattle.std.specs.Ordering.{ordering_then, int_cmp, nat_cmp, is_lt}
use Rattle.std.specs.declared.cmp.Ordering.{Ordering}
use Rattle.civil_moment.specs.declared.moment.Moment.{Moment}
use Rattle.civil_moment.specs.Calendar.{is_date, day_number, is_time, second_number}

-- ---- digits, by their values

-- each is below 10
abbrev pub are_digits : List ℕ → Bool
are_digits = list_all (λ digit. nat_lt digit 10)

-- a number that goes on with these digits
abbrev pub number_on : ℕ → List ℕ → ℕ
number_on number [] = number
number_on number (digit ∷ rest) = number_on (number * 10 + digit) rest

-- the number that digits say
abbrev pub number : List ℕ → ℕ
number = number_on 0

-- the characters of digits
abbrev pub digits_text : List ℕ → List ℕ
digits_text = map (λ digit. 48 + digit)

-- ---- date and time, by fourteen digits: YYYYMMDDhhmmss

abbrev pub year_of : List ℕ → ℕ
year_of fields = number (take 4 fields)

abbrev pub month_of : List ℕ → ℕ
month_of fields = number (take 2 (drop 4 fields))

abbrev pub day_of : List ℕ → ℕ
day_of fields = number (take 2 (drop 6 fields))

abbrev pub hour_of : List ℕ → ℕ
hour_of fields = number (take 2 (drop 8 fields))

abbrev pub minute_of : List ℕ → ℕ
minute_of fields = number (take 2 (drop 10 fields))

abbrev pub second_of : List ℕ → ℕ
second_of fields = number (take 2 (drop 12 fields))

-- a date from 1970 to 9999 and a time of the day
abbrev pub is_civil : List ℕ → Bool
is_civil fields =
    is_date (year_of fields) (month_of fields) (day_of fields)
    && is_time (hour_of fields) (minute_of fields) (second_of fields)

-- the seconds from the begin of 1970
abbrev pub seconds_of : List ℕ → ℕ
seconds_of fields =
    86400 * day_number (year_of fields) (month_of fields) (day_of fields)
    + second_number (hour_of fields) (minute_of fields) (second_of fields)

-- ---- the fraction of a second, by the digits behind the point

-- it has no trailing zeros (11.7.3), and no part below a billionth
abbrev pub is_fraction : List ℕ → Bool
is_fraction fraction = nat_le (length fraction) 9 && not (ends_with nat_eq fraction (0 ∷ []))

-- in billionths: the fraction, filled up to nine digits
abbrev pub nanos_of : List ℕ → ℕ
nanos_of fraction = number (fraction ++ replicate (9 - length fraction) 0)

-- the point, where there is a fraction (11.7.4)
abbrev pub fraction_text : List ℕ → List ℕ
fraction_text [] = []
fraction_text (digit ∷ rest) = codes "." ++ digits_text (digit ∷ rest)

-- ---- the text

-- the fourteen digits, the fraction and a Z (11.7.1, 11.7.2)
abbrev pub time_text : List ℕ → List ℕ → List ℕ
time_text fields fraction = digits_text fields ++ fraction_text fraction ++ codes "Z"

-- the text says this moment
pub record Text (text : List ℕ) (moment : Moment) : Type 0 where
  pub fields : List ℕ
  pub fraction : List ℕ
  pub spelled : text ≡ time_text fields fraction
  pub fourteen : length fields ≡ 14
  pub digits : IsTrue (are_digits fields && are_digits fraction)
  pub shortest : IsTrue (is_fraction fraction)
  pub civil : IsTrue (is_civil fields)
  pub seconds : moment.seconds ≡ pos (seconds_of fields)
  pub nanos : moment.nanos ≡ nanos_of fraction

-- the most bytes of such a text
abbrev pub longest_time : ℕ
longest_time = 25

-- a text of the moment was added to another text
pub record AddsTime (old new : List ℕ) (moment : Moment) : Type 0 where
  pub time : List ℕ
  pub says : Text time moment
  pub added : new ≡ old ++ time

-- ---- the order of moments

-- the seconds decide, and else the billionths
abbrev pub moment_order : Moment → Moment → Ordering
moment_order a b = ordering_then (int_cmp a.seconds b.seconds) (nat_cmp a.nanos b.nanos)

-- the first is earlier
abbrev pub is_before : Moment → Moment → Bool
is_before a b = is_lt (moment_order a b)

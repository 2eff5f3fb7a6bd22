-- The Gregorian calendar (ISO 8601-1, 4.2.1), in days from 1 January 1970 on.
use Rattle.std.specs.Prelude.{ℕ, zero, suc, ◌+◌, ◌-◌, ◌*◌, ◌%◌, ◌==◌, Bool, not, ◌&&◌, ◌||◌, nat_le, nat_lt, if◌then◌else◌}

-- every fourth year, but of the centuries only every fourth
abbrev pub is_leap : ℕ → Bool
is_leap year = (year % 4 == 0) && (not (year % 100 == 0) || (year % 400 == 0))

-- 366 in a leap year, else 365
abbrev pub days_in_year : ℕ → ℕ
days_in_year year = if is_leap year then 366 else 365

-- thirty days have September, April, June and November
abbrev pub days_in_month : ℕ → ℕ → ℕ
days_in_month year month =
    if month == 2 then (if is_leap year then 29 else 28)
    else (if (month == 4) || (month == 6) || (month == 9) || (month == 11) then 30 else 31)

-- the calendar has this day, from 1970 to 9999
abbrev pub is_date : ℕ → ℕ → ℕ → Bool
is_date year month day =
    nat_le 1970 year && nat_le year 9999 && nat_le 1 month && nat_le month 12
    && nat_le 1 day && nat_le day (days_in_month year month)

-- the days of the first so many years from 1970 on
unfoldable pub days_of_years : ℕ → ℕ
days_of_years zero = 0
days_of_years (suc years) = days_of_years years + days_in_year (1970 + years)

-- the days of the first so many months of the year
unfoldable pub days_of_months : ℕ → ℕ → ℕ
days_of_months year zero = 0
days_of_months year (suc months) = days_of_months year months + days_in_month year (suc months)

-- the days from 1 January 1970 to this one
unfoldable pub day_number : ℕ → ℕ → ℕ → ℕ
day_number year month day = days_of_years (year - 1970) + days_of_months year (month - 1) + (day - 1)

-- the day has this time, with no leap second
abbrev pub is_time : ℕ → ℕ → ℕ → Bool
is_time hour minute second = nat_lt hour 24 && nat_lt minute 60 && nat_lt second 60

-- the seconds from midnight to it
abbrev pub second_number : ℕ → ℕ → ℕ → ℕ
second_number hour minute second = 3600 * hour + 60 * minute + second

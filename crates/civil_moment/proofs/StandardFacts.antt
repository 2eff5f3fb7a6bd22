-- Values that the calendar and X.690 give, so that a wrong rule in the specs does not check.
use Rattle.std.proofs.Common.{◌≡◌, [], ◌∷◌, length, map, true, false, refl}
use Rattle.std.specs.Prelude.{codes, Some, None}
use Rattle.civil_moment.specs.declared.fault.TimeFault.TheVariants.{Shape, Fraction, Range}
use Rattle.civil_moment.specs.Calendar.{is_leap, days_of_years, days_of_months, day_number}
use Rattle.civil_moment.specs.Moment.{seconds_of, nanos_of, time_text, longest_time}
use Rattle.civil_moment.specs.Fault.{first_fault, fields_in, fraction_in}

leap_years : map is_leap (1972 ∷ 1900 ∷ 2000 ∷ 2023 ∷ 2024 ∷ 2100 ∷ 2400 ∷ []) ≡ true ∷ false ∷ true ∷ false ∷ true ∷ false ∷ true ∷ []
leap_years = refl

-- four hundred years have 146,097 days
long_count : days_of_years 400 ≡ 146097
unfolding days_of_years
long_count = refl

first_second : seconds_of (fields_in (codes "19700101000000Z")) ≡ 0
unfolding day_number days_of_years days_of_months
first_second = refl

leap_day : seconds_of (fields_in (codes "20240229000000Z")) ≡ 1709164800
unfolding day_number days_of_years days_of_months
leap_day = refl

-- the last second that a moment can have
last_second : seconds_of (fields_in (codes "99991231235959Z")) ≡ 253402300799
unfolding day_number days_of_years days_of_months
last_second = refl

-- X.690, 11.7.5: what is refused there and what is allowed, in the forms that end in seconds and Z
refused_forms : map first_fault
    (codes "19851106210627.30Z" ∷ codes "198511062106Z" ∷ codes "19851106210627.Z" ∷ codes "19851106210627.3" ∷ []) ≡ Some Fraction ∷ Some Shape ∷ Some Shape ∷ Some Shape ∷ []
refused_forms = refl

allowed_forms : map first_fault (codes "19851106210627.3Z" ∷ codes "20000521000000Z" ∷ codes "20000622123421Z" ∷ []) ≡ None ∷ None ∷ None ∷ []
allowed_forms = refl

other_forms : map first_fault
    (codes "20230229000000Z" ∷ codes "19691231235959Z" ∷ codes "20240101000000.10Z" ∷ codes "202401010000Z" ∷ codes "20240101000060Z" ∷ codes "20240101240000Z"
    ∷ codes "20240101000000.1234567891Z" ∷ codes "20240132000000.10Z" ∷ codes "20240101000000.0Z" ∷ codes "" ∷ codes "Z" ∷ []) ≡
    Some Range ∷ Some Range ∷ Some Fraction ∷ Some Shape ∷ Some Range ∷ Some Range ∷ Some Fraction ∷ Some Fraction ∷ Some Fraction ∷ Some Shape ∷ Some Shape ∷ []
other_forms = refl

billionths : nanos_of (fraction_in (codes "19851106210627.3Z")) ≡ 300000000
billionths = refl

spelled : time_text (2 ∷ 0 ∷ 2 ∷ 4 ∷ 0 ∷ 2 ∷ 2 ∷ 9 ∷ 0 ∷ 0 ∷ 0 ∷ 0 ∷ 0 ∷ 0 ∷ []) (2 ∷ 5 ∷ []) ≡ codes "20240229000000.25Z"
spelled = refl

-- the longest: fourteen digits, a point and nine more, and Z
longest : length (codes "99991231235959.999999999Z") ≡ longest_time
longest = refl

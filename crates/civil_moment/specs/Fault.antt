-- What is first wrong with a text that isn't generalized time: its shape, its fraction, or its date and time.
use Rattle.std.specs.Prelude.{ℕ, ◌-◌, ◌==◌, Bool, true, false, not, ◌&&◌, nat_eq, List, [], ◌∷◌, length, take, drop, map, codes, Option, Some, None, if◌then◌else◌}
use Rattle.std.specs.List.{list_all, ends_with}
use Rattle.std.specs.Char.{is_ascii_digit}
use Rattle.civil_moment.specs.declared.fault.TimeFault.{TimeFault}
use Rattle.civil_moment.specs.declared.fault.TimeFault.TheVariants.{Shape, Fraction, Range}
use Rattle.civil_moment.specs.Moment.{is_fraction, is_civil}

-- what stands before the last byte
abbrev pub before_last : List ℕ → List ℕ
before_last text = take (length text - 1) text

-- nothing, or a point and at least one digit
abbrev pub is_point_and_digits : List ℕ → Bool
is_point_and_digits [] = true
is_point_and_digits (point ∷ []) = false
is_point_and_digits (point ∷ digit ∷ rest) = (point == 46) && list_all is_ascii_digit (digit ∷ rest)

-- fourteen digits, nothing or a point and at least one digit, and Z
abbrev pub has_shape : List ℕ → Bool
has_shape text =
    ends_with nat_eq text (codes "Z")
    && (length (take 14 (before_last text)) == 14) && list_all is_ascii_digit (take 14 (before_last text))
    && is_point_and_digits (drop 14 (before_last text))

-- the values of digits
abbrev pub values : List ℕ → List ℕ
values = map (λ byte. byte - 48)

-- the values of the fourteen digits in front
abbrev pub fields_in : List ℕ → List ℕ
fields_in text = values (take 14 (before_last text))

-- the values of the digits behind the point
abbrev pub fraction_in : List ℕ → List ℕ
fraction_in text = values (drop 15 (before_last text))

-- what is first wrong with a text: its shape, its fraction, its date and time, or nothing
abbrev pub first_fault : List ℕ → Option TimeFault
first_fault text =
    if not (has_shape text) then Some Shape
    else (if not (is_fraction (fraction_in text)) then Some Fraction
    else (if not (is_civil (fields_in text)) then Some Range else None))

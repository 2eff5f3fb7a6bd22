-- What single values of time-stamp infos and requests have to be, beyond their types.
use Rattle.std.specs.Prelude.{ℕ, false, Option, Some, None, Result, Ok, Err, if◌then◌else◌}
use Rattle.der_values.specs.declared.fault.DerFault.{DerFault}
use Rattle.der_values.specs.declared.fault.DerKind.TheVariants.{BadValue}
use Rattle.der_values.specs.Input.{Item}
use Rattle.der_values.specs.Steps.{◌>>=◌, lift}
use Rattle.der_values.specs.Typed.{boolean_of, version_of}
use Rattle.der_values.specs.Shape.{Checks}
use Rattle.civil_moment.specs.declared.fault.TimeFault.{TimeFault}
use Rattle.civil_moment.specs.Fault.{first_fault}
use Rattle.tst_info.specs.declared.fault.TstFault.{TstFault}
use Rattle.tst_info.specs.declared.fault.TstKind.{TstKind}
use Rattle.tst_info.specs.declared.fault.TstKind.TheVariants.{Der, Version, Time}

-- the names of the checks
pub data StampCheck : Type 0 where
  version_one : StampCheck
  generalized_time : StampCheck
  true_alone : StampCheck

-- a fault of the encoding
abbrev pub der : DerFault → TstFault
der e = record { place = e.place; kind = Der e.kind }

-- a fault of this kind at this place
abbrev pub tst_fault : {A : Type 0} → ℕ → TstKind → Result A TstFault
tst_fault place kind = Err (record { place = place; kind = kind })

-- version INTEGER { v1(1) } (RFC 3161, 2.4.1, 2.4.2)
abbrev pub version_at : Item → Result (Unit {0}) TstFault
version_at v = version_of der (record { place = v.place; kind = Version }) v

-- A BOOLEAN DEFAULT FALSE stands there only where it is TRUE (X.690, 11.5).
unfoldable pub true_of : Item → Result (Unit {0}) TstFault
true_of v = lift der (boolean_of v) >>= λ b. if b then Ok tt else tst_fault v.place (Der BadValue)

-- the fault of a time, where it has one
abbrev pub time_answer : ℕ → Option TimeFault → Result (Unit {0}) TstFault
time_answer place None = Ok tt
time_answer place (Some e) = tst_fault place (Time e)

-- genTime GeneralizedTime (RFC 3161, 2.4.2; X.690, 11.7)
unfoldable pub time_of : Item → Result (Unit {0}) TstFault
time_of v = time_answer v.place (first_fault v.content)

-- the check of each name, on a value
abbrev pub judge : StampCheck → Item → Result (Unit {0}) TstFault
judge version_one v = version_at v
judge generalized_time v = time_of v
judge true_alone v = true_of v

-- No check needs to know of another value.
abbrev pub stamp_checks : Checks StampCheck (Unit {0}) TstFault
stamp_checks = record { der = der; at_value = λ c σ v. judge c v; at_point = λ c σ input. Ok σ; holds = λ c σ. false }

use Rattle.std.proofs.Common.{◌≡◌, refl, pos, to_z, of_z, w64, arith, sym, ap, ◌∙◌}
use Rattle.std.proofs.lemmas.Int.{ints}
use Rattle.std.specs.Prelude.{Ok}
use Rattle.civil_moment.specs.declared.fault.TimeFault.TheVariants.{Shape, Fraction, Range}
use Rattle.civil_moment.specs.Moment.{is_fraction, is_civil, seconds_of, nanos_of}
use Rattle.civil_moment.proofs.FirstFault.{shape_fault, fraction_fault, range_fault, refused-only, refused-fault, read-text, read-only}
use Rattle.civil_moment.proofs.reading.read_generalized.Goals as goal

pub returns-in_default-clause-only : goal.returns-in_default-clause-only
returns-in_default-clause-only c =
    refused-only c.args.text.now Shape _ (shape_fault c.args.text.now (λ h. let e = c.in_default.ensures.shape.1 h in cc))

pub returns-in_default-clause-fault : goal.returns-in_default-clause-fault
returns-in_default-clause-fault c =
    refused-fault c.args.text.now Shape _ refl (shape_fault c.args.text.now (λ h. let e = c.in_default.ensures.shape.1 h in cc))

pub returns-in_default-billionths-clause-only : goal.returns-in_default-billionths-clause-only
returns-in_default-billionths-clause-only c =
    let shape = c.in-Some.ensures.shape.0 refl in
    refused-only c.args.text.now Fraction _ (fraction_fault c.args.text.now shape
    (λ h. let e = c.in_default-billionths.ensures.found.1 (ap is_fraction c.in-Some.ensures.fraction ∙ h) in cc))

pub returns-in_default-seconds-clause-only : goal.returns-in_default-seconds-clause-only
returns-in_default-seconds-clause-only c =
    let shape = c.in-Some.ensures.shape.0 refl in
    let fraction = sym (ap is_fraction c.in-Some.ensures.fraction) ∙ c.in-Some-billionths.ensures.found.0 refl in
    refused-only c.args.text.now Range _ (range_fault c.args.text.now shape fraction
    (λ h. let e = c.in_default-seconds.ensures.found.1 (ap is_civil c.in-Some.ensures.fields ∙ h) in cc))

pub returns-clause-read : goal.returns-clause-read
returns-clause-read c =
    let shape = c.in-Some.ensures.shape.0 refl in
    let fraction = sym (ap is_fraction c.in-Some.ensures.fraction) ∙ c.in-Some-billionths.ensures.found.0 refl in
    let civil = sym (ap is_civil c.in-Some.ensures.fields) ∙ c.in-Some-seconds.ensures.found.0 refl in
    let value = c.in-Some-seconds.ensures.value in
    let most = c.in-Some-seconds.ensures.most in
    let cast : to_z w64 (of_z w64 c.in-Some-seconds.seconds) ≡ c.in-Some-seconds.seconds = omega (arith, ints, value, most) in
    read-text c.args.text.now _ shape fraction civil
    (cast ∙ value ∙ ap (λ f. pos (seconds_of f)) c.in-Some.ensures.fields)
    (c.in-Some-billionths.ensures.value ∙ ap nanos_of c.in-Some.ensures.fraction)

pub returns-clause-only : goal.returns-clause-only
returns-clause-only c =
    let value = c.in-Some-seconds.ensures.value in
    let most = c.in-Some-seconds.ensures.most in
    let cast : to_z w64 (of_z w64 c.in-Some-seconds.seconds) ≡ c.in-Some-seconds.seconds = omega (arith, ints, value, most) in
    λ other t. ap Ok (read-only c.args.text.now _
    (cast ∙ value ∙ ap (λ f. pos (seconds_of f)) c.in-Some.ensures.fields)
    (c.in-Some-billionths.ensures.value ∙ ap nanos_of c.in-Some.ensures.fraction) other t)

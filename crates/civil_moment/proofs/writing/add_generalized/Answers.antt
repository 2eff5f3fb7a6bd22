use Rattle.std.proofs.Common.{to_z, of_z, w64}
use Rattle.std.specs.Prelude.{unsigned_abs}
use Rattle.civil_moment.proofs.Written.{added, unsigned_seconds}
use Rattle.civil_moment.proofs.writing.add_generalized.Goals as goal

pub returns-clause-time : goal.returns-clause-time
returns-clause-time c =
    let moment = c.args.moment.now in
    let n = unsigned_abs (to_z w64 (of_z w64 moment.seconds)) in
    let date = c.date_of-year.result in
    added moment date.0 date.1 date.2 n _ _ _ _ _ _ _ _ _ (unsigned_seconds moment) c.date_of-year.ensures.date c.date_of-year.ensures.number
    c.in_ok-push_digits.ensures.digits c.in_ok-push_digits-2.ensures.digits c.in_ok-push_digits-3.ensures.digits c.in_ok-push_digits-4.ensures.digits
    c.in_ok-push_digits-5.ensures.digits c.in_ok-push_digits-6.ensures.digits c.in_ok-push_fraction.ensures.fraction c.in_ok-push.ensures.items

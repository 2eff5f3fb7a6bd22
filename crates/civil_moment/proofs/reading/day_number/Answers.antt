use Rattle.std.proofs.Common.{◌≡◌, pos, to_z, of_z, w8, w16, w32, w64, arith, sym, ◌∙◌}
use Rattle.std.proofs.lemmas.Int.{ints}
use Rattle.jiff_core.specs.Date.{IsYmd}
use Rattle.civil_moment.proofs.Counting.{taken, known, value_of, date_tells}
use Rattle.civil_moment.proofs.reading.day_number.Goals as goal

pub returns-clause-found : goal.returns-clause-found
returns-clause-found c =
    let year : to_z w16 c.args.year ≡ pos c.args.year = omega (arith, ints) in
    let month : to_z w8 c.args.month ≡ pos c.args.month = omega (arith, ints) in
    let day : to_z w8 c.args.day ≡ pos c.args.day = omega (arith, ints) in (
      λ _. taken c.args.year c.args.month c.args.day _ _ _ year month day c.if-year-lt1970.false
          (c.new.ensures.succeeds.0 (sym c.in_ok-date.ensures.variant)),
      λ e. cc,
    )

pub returns-clause-value : goal.returns-clause-value
returns-clause-value c =
    let year : to_z w16 c.args.year ≡ pos c.args.year = omega (arith, ints) in
    let month : to_z w8 c.args.month ≡ pos c.args.month = omega (arith, ints) in
    let day : to_z w8 c.args.day ≡ pos c.args.day = omega (arith, ints) in
    let days = c.to_unix_epoch_day.result in
    let civil = date_tells c.args.year c.args.month c.args.day ((returns-clause-found c).0 cc) in
    let parts = value_of (IsYmd (to_z w16 c.args.year) (to_z w8 c.args.month) (to_z w8 c.args.day)) c.new.result c.in_ok-date.date c.in_ok-date.ensures.value c.new.ensures.value in
    let bound = c.to_unix_epoch_day.ensures.bound in
    let cast : to_z w64 (of_z w64 (to_z w32 (of_z w32 days))) ≡ days = omega (arith, ints) in
    cast ∙ known c.in_ok-date.date c.args.year c.args.month c.args.day _ _ _ days year month day c.if-year-lt1970.false civil.4 parts c.to_unix_epoch_day.ensures.value

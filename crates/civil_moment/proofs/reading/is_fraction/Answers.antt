use Rattle.civil_moment.proofs.Digits.{fraction_tested}
use Rattle.civil_moment.proofs.reading.is_fraction.Goals as goal

pub returns-then-digits-le-MOST_DIGITS : goal.returns-then-digits-le-MOST_DIGITS
returns-then-digits-le-MOST_DIGITS c =
    fraction_tested c.args.digits.now c.ends_with.result c.requires c.if-digits-le-MOST_DIGITS.true c.ends_with.ensures.value

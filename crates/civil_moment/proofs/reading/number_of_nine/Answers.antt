use Rattle.std.proofs.Common.{◌∙◌}
use Rattle.civil_moment.proofs.Digits.{filled_digits, filled_value}
use Rattle.civil_moment.proofs.reading.number_of_nine.Goals as goal

pub number-requires-clause-digits : goal.number-requires-clause-digits
number-requires-clause-digits c =
    filled_digits c.args.digits.now c.copy_from_slice.new.self c.copy_from_slice.ensures.after c.requires.digits

pub returns-clause-value : goal.returns-clause-value
returns-clause-value c =
    c.number.ensures.value ∙ filled_value c.args.digits.now c.copy_from_slice.new.self c.copy_from_slice.ensures.after

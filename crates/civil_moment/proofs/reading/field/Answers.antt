use Rattle.std.proofs.Common.{◌∙◌}
use Rattle.civil_moment.proofs.Digits.{field_digits, field_value}
use Rattle.civil_moment.proofs.reading.field.Goals as goal

pub number-requires-clause-digits : goal.number-requires-clause-digits
number-requires-clause-digits c = field_digits c.args.fields.now c.args.place c.args.count c.requires.digits

pub returns-clause-value : goal.returns-clause-value
returns-clause-value c = c.number.ensures.value ∙ field_value c.args.fields.now c.args.place c.args.count

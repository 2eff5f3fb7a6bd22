use Rattle.civil_moment.proofs.FromDays.{parts_dated}
use Rattle.civil_moment.proofs.writing.date_of.Goals as goal

pub returns-clause-date : goal.returns-clause-date
returns-clause-date c =
    (parts_dated c.from_days_since_min-date.result c.unsigned_abs.result c.args.days c.unsigned_abs.ensures.value c.from_days_since_min-date.ensures).date

pub returns-clause-number : goal.returns-clause-number
returns-clause-number c =
    (parts_dated c.from_days_since_min-date.result c.unsigned_abs.result c.args.days c.unsigned_abs.ensures.value c.from_days_since_min-date.ensures).number

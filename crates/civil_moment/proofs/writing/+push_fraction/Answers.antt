use Rattle.std.proofs.Common.{◌≡◌, ◌++◌, ◌∙◌, ap, arith, sym, subst, OnOk}
use Rattle.civil_moment.specs.Moment.{digits_text, fraction_text}
use Rattle.civil_moment.specs.Inside.{places, shortest}
use Rattle.civil_moment.proofs.Places.{fraction_none, fraction_less, fraction_more}
use Rattle.civil_moment.proofs.writing.+push_fraction.Goals as goal

pub returns-then-count-eq0-clause-fraction : goal.returns-then-count-eq0-clause-fraction
returns-then-count-eq0-clause-fraction t c =
    subst (λ k. c.args.text.now.items ≡ c.args.text.now.items ++ fraction_text (shortest k c.args.number)) (sym c.if-count-eq0.true)
    (fraction_none c.args.text.now.items c.args.number)

pub returns-then-number-eq0-clause-fraction : goal.returns-then-number-eq0-clause-fraction
returns-then-number-eq0-clause-fraction t c =
    subst (λ l. OnOk c.push_fraction.result (c.push_fraction.new.text.items ≡ c.args.text.now.items ++ fraction_text l))
    (fraction_less c.args.count c.args.number (omega arith) c.if-number-eq0.true) c.push_fraction.ensures.fraction

pub returns-clause-fraction : goal.returns-clause-fraction
returns-clause-fraction t c =
    fraction_more c.args.text.now.items c.push_digits.new.text.items c.args.count c.args.number (omega arith) c.if-number-eq0.false
    (c.in_ok-push_digits.ensures.digits ∙ ap (λ l. l ++ digits_text (places c.args.count c.args.number)) c.in_ok-push.ensures.items)

use Rattle.std.proofs.Common.{◌≡◌, ◌+◌, ◌%◌, ◌++◌, ◌∷◌, [], ◌∙◌, ap, arith, sym, subst}
use Rattle.civil_moment.specs.Moment.{digits_text}
use Rattle.civil_moment.specs.Inside.{places}
use Rattle.civil_moment.proofs.Places.{digits_none, digits_more}
use Rattle.civil_moment.proofs.writing.+push_digits.Goals as goal

pub returns-then-count-eq0-clause-digits : goal.returns-then-count-eq0-clause-digits
returns-then-count-eq0-clause-digits t c =
    subst (λ k. c.args.text.now.items ≡ c.args.text.now.items ++ digits_text (places k c.args.number)) (sym c.if-count-eq0.true)
    (digits_none c.args.text.now.items c.args.number)

pub returns-clause-digits : goal.returns-clause-digits
returns-clause-digits t c =
    digits_more c.args.text.now.items c.push.new.self.items c.args.count c.args.number (omega arith)
    (c.in_ok-push.ensures.items ∙ ap (λ l. l ++ (48 + c.args.number % 10) ∷ []) c.in_ok-push_digits.ensures.digits)

use Rattle.civil_moment.proofs.Written.{said}
use Rattle.civil_moment.proofs.Unique.{one_text}
use Rattle.civil_moment.proofs.writing.write_generalized.Goals as goal

pub returns-clause-text : goal.returns-clause-text
returns-clause-text c = said c.args.moment.now _ _ c.new-text.ensures.items c.in_ok-add_generalized.ensures.time

pub returns-clause-only : goal.returns-clause-only
returns-clause-only c = λ other t. one_text c.args.moment.now other _ t (returns-clause-text c)

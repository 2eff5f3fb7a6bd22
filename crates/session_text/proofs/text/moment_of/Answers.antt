use Rattle.civil_moment.proofs.FirstFault.{no_fault}
use Rattle.session_text.specs.Words.{time_in}
use Rattle.session_text.proofs.text.moment_of.Goals as goal

pub returns-in-Ok-clause-time : goal.returns-in-Ok-clause-time
unfolding time_in
returns-in-Ok-clause-time c = rw (no_fault c.args.word.now c.in-Ok.moment c.in-Ok.ensures.read) cc

pub returns-in-Err-clause-fault : goal.returns-in-Err-clause-fault
unfolding time_in
returns-in-Err-clause-fault c = rw ((c.read_generalized.ensures.fault c.in-Err.field-0).0 c.in-Err.is) cc

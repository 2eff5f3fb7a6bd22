use Rattle.std.proofs.lemmas.Bool.{cond-false}
use Rattle.algorithm_policy.proofs.WordLemmas.{no_sid}
use Rattle.algorithm_policy.proofs.word.sid_of.Goals as goal

pub returns-then-word-clause-fault : goal.returns-then-word-clause-fault
returns-then-word-clause-fault c = cond-false _ _ _ (no_sid c.args.word.now c.requires c.if-word.true)

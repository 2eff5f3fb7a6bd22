use Rattle.algorithm_policy.proofs.LookupLemmas.{target_last, target_first}
use Rattle.algorithm_policy.proofs.laws.the_target_ends_last.Goals as goal

pub returns-clause-last : goal.returns-clause-last
returns-clause-last c = target_last

pub returns-clause-first : goal.returns-clause-first
returns-clause-first c = target_first

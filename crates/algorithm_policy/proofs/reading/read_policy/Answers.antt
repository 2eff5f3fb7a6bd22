use Rattle.algorithm_policy.proofs.TextLemmas.{only_reads, only_refuses}
use Rattle.algorithm_policy.proofs.reading.read_policy.Goals as goal

pub returns-clause-only : goal.returns-clause-only
returns-clause-only c = only_reads _ _ c.read.ensures.found c.read.ensures.fault

pub returns-clause-refused : goal.returns-clause-refused
returns-clause-refused c = only_refuses _ _ c.read.ensures.found c.read.ensures.fault

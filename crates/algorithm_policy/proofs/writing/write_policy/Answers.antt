use Rattle.algorithm_policy.proofs.TextLemmas.{only_writes}
use Rattle.algorithm_policy.proofs.writing.write_policy.Goals as goal

pub returns-clause-only : goal.returns-clause-only
returns-clause-only c = only_writes c.written.result c.args.policy.now c.written.ensures

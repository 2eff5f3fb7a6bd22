use Rattle.evidence_syntax.proofs.Faults.{no_memory}
use Rattle.evidence_syntax.proofs.laws.want_of_memory_is_no_first_fault.Goals as goal

pub returns : goal.returns
returns c = no_memory

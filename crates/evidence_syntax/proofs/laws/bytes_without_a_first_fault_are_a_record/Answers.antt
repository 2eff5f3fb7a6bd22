use Rattle.evidence_syntax.proofs.Faults.{record_without_fault}
use Rattle.evidence_syntax.proofs.laws.bytes_without_a_first_fault_are_a_record.Goals as goal

pub returns : goal.returns
returns c = record_without_fault

use Rattle.tst_info.proofs.InfoLemmas.{tst_without_fault}
use Rattle.tst_info.proofs.laws.bytes_without_a_first_fault_are_an_info.Goals as goal

pub returns : goal.returns
returns c = tst_without_fault

use Rattle.object_groups.proofs.LimitLemmas.{none_is_group, group_is_none}
use Rattle.object_groups.proofs.laws.documents_without_a_fault_are_a_group.Goals as goal

pub returns : goal.returns
returns c = λ documents. (none_is_group documents, group_is_none documents)

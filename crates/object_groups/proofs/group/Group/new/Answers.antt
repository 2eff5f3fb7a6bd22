use Rattle.std.proofs.Common.{ap, sym, ◌∙◌}
use Rattle.object_groups.specs.Groups.{fault_of}
use Rattle.object_groups.proofs.LimitLemmas.{none_is_group}
use Rattle.object_groups.proofs.group.Group.new.Goals as goal

pub invariant_of-result : goal.invariant_of-result
invariant_of-result c = none_is_group c.args.documents (ap fault_of (sym c.as_slice.ensures) ∙ sym c.fault_of.ensures ∙ c.in-None.is)

pub returns-in-None-clause-within : goal.returns-in-None-clause-within
returns-in-None-clause-within c = invariant_of-result c

use Rattle.std.proofs.Common.{length, take, Some}
use Rattle.std.specs.List.{flat_map}
use Rattle.der_values.specs.Value.{value}
use Rattle.evidence_syntax.specs.Inside.{IsSizeOf}
use Rattle.evidence_syntax.proofs.sizes.values_size.Given as goal

abbrev pub invariant-loop-value : goal.invariant-loop-value
invariant-loop-value l = IsSizeOf (length (flat_map (λ v. value 4 v) (take l.value-index l.values))) (Some l.size)

use Rattle.std.proofs.Common.{◌≡◌, take}
use Rattle.std.specs.List.{flat_map}
use Rattle.der_values.specs.Value.{value}
use Rattle.evidence_syntax.proofs.writing.values_bytes.Given as goal

abbrev pub invariant-loop-value : goal.invariant-loop-value
invariant-loop-value l = l.contents.items ≡ flat_map (λ v. value 4 v) (take l.value-index l.values)

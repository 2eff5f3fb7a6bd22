use Rattle.std.proofs.Common.{◌≡◌, drop, true}
use Rattle.der_values.specs.Typed.{are_subidentifiers}
use Rattle.der_values.proofs.typed.are_whole_subidentifiers.Given as goal

abbrev pub invariant-loop-octet : goal.invariant-loop-octet
invariant-loop-octet l = are_subidentifiers l.begins (drop l.octet-index l.content) ≡ are_subidentifiers true l.content

use Rattle.std.proofs.Common.{◌≡◌, drop}
use Rattle.der_values.specs.Inside.{all_zero}
use Rattle.der_values.proofs.order.are_zeros.Given as goal

abbrev pub invariant-loop-octet : goal.invariant-loop-octet
invariant-loop-octet l = all_zero (drop l.octet-index l.bytes) ≡ all_zero l.bytes

use Rattle.std.proofs.Common.{arith}
use Rattle.hash_tree.proofs.PowerLemmas.{is_power, power_under, power_high}
use Rattle.hash_tree.proofs.laws.power_below_is_the_largest.Goals as goal

pub returns-clause-power : goal.returns-clause-power
returns-clause-power c = λ n. is_power n n

pub returns-clause-below : goal.returns-clause-below
returns-clause-below c = λ n h. power_under n n h

pub returns-clause-largest : goal.returns-clause-largest
returns-clause-largest c = λ n. power_high n n (omega arith)

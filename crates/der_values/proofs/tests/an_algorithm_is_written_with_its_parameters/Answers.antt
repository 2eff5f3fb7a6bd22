use Rattle.std.proofs.Common.{arith}
use Rattle.der_values.specs.Value.{value, length_octets}
use Rattle.der_values.proofs.tests.an_algorithm_is_written_with_its_parameters.Goals as goal

pub write_algorithm-requires-clause-short : goal.write_algorithm-requires-clause-short
unfolding value length_octets
write_algorithm-requires-clause-short g c = omega arith

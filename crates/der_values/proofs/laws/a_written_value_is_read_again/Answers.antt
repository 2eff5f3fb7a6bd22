use Rattle.der_values.proofs.Again.{next_again}
use Rattle.der_values.proofs.laws.a_written_value_is_read_again.Goals as goal

pub returns : goal.returns
returns c = next_again

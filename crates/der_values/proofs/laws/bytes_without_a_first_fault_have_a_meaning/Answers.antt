use Rattle.der_values.proofs.Meaning.{free_means}
use Rattle.der_values.proofs.laws.bytes_without_a_first_fault_have_a_meaning.Goals as goal

pub returns : goal.returns
returns g c = λ k s σ f input fits none. free_means k s σ f input fits none

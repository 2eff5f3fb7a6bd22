use Rattle.der_values.proofs.Meaning.{means_free}
use Rattle.der_values.proofs.laws.bytes_with_a_meaning_have_no_first_fault.Goals as goal

pub returns : goal.returns
returns g c = λ k s σ f input v m. means_free k s σ f input v m

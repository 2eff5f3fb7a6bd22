use Rattle.der_values.proofs.Meaning.{one_meaning}
use Rattle.der_values.proofs.laws.bytes_have_one_meaning.Goals as goal

pub returns : goal.returns
returns g c = λ k s σ f input v w m n. one_meaning k s σ f input v w m n

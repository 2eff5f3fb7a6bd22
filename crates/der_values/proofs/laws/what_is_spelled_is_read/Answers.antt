use Rattle.der_values.proofs.Again.{again}
use Rattle.der_values.proofs.laws.what_is_spelled_is_read.Goals as goal

pub returns : goal.returns
returns g c = λ k s σ τ place p v. again k s σ place p τ v

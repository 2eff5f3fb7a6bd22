use Rattle.der_values.proofs.Sound.{takes}
use Rattle.der_values.proofs.laws.what_is_read_is_spelled.Goals as goal

pub returns : goal.returns
returns g c = λ k s σ τ input p fits e. let t = takes k s σ input p τ fits e in (t.spelled, t.valid)

use Rattle.algorithm_policy.proofs.WordLemmas.{sized}
use Rattle.algorithm_policy.proofs.word.array_of.Goals as goal

pub returns : goal.returns
returns g c = sized _ _ _ _ c.requires c.from_hex.ensures c.ok.ensures.value

use Rattle.evidence_verify.proofs.Lapsing.{some_is}
use Rattle.evidence_verify.proofs.laws.the_lapse_is_that_of_the_first.Goals as goal

pub returns : goal.returns
returns c = some_is

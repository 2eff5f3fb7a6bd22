use Rattle.evidence_verify.proofs.Members.{has_is}
use Rattle.evidence_verify.proofs.covering.has.Goals as goal

pub returns : goal.returns
returns c = has_is _ _ _ c.contains_first.ensures

use Rattle.evidence_verify.proofs.Lapsing.{none_is}
use Rattle.evidence_verify.proofs.laws.nothing_lapses_exactly_in_time.Goals as goal

pub returns : goal.returns
returns c = none_is

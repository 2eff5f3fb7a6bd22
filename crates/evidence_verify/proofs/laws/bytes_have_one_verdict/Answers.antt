use Rattle.evidence_verify.proofs.Once.{verdict_once}
use Rattle.evidence_verify.proofs.laws.bytes_have_one_verdict.Goals as goal

pub returns : goal.returns
returns c = verdict_once

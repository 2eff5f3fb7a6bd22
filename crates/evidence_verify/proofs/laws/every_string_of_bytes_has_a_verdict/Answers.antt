use Rattle.evidence_verify.proofs.Exists.{has_verdict}
use Rattle.evidence_verify.proofs.laws.every_string_of_bytes_has_a_verdict.Goals as goal

pub returns : goal.returns
returns c = has_verdict

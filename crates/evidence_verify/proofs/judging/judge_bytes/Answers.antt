use Rattle.evidence_syntax.specs.Record.{record_seen}
use Rattle.evidence_verify.proofs.Chains.{were_read}
use Rattle.evidence_verify.proofs.judging.judge_bytes.Goals as goal

pub judge_chains-requires-clause-read : goal.judge_chains-requires-clause-read
judge_chains-requires-clause-read c = rw c.as_slice-chains.ensures (were_read _ (record_seen c.in-Ok.evidence) c.in-Ok.ensures.found)

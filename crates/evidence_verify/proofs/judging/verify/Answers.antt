use Rattle.evidence_syntax.proofs.Parts.{if_ok}
use Rattle.evidence_verify.proofs.Once.{verdict_once}
use Rattle.evidence_verify.proofs.judging.verify.Goals as goal

pub returns-clause-only : goal.returns-clause-only
returns-clause-only c = λ w is. if_ok c.judge_bytes.result (λ v h. verdict_once c.args.policy.now c.args.documents.now c.args.mode c.args.moment c.args.bytes.now v w h is) c.judge_bytes.ensures

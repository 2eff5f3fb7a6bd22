use Rattle.evidence_verify.proofs.Once.{tokens_once}
use Rattle.evidence_verify.proofs.laws.tokens_say_one_thing.Goals as goal

pub returns : goal.returns
returns c = tokens_once

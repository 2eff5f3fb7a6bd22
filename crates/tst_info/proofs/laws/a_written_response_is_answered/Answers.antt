use Rattle.tst_info.proofs.ResponseReadable.{response_answered}
use Rattle.tst_info.proofs.laws.a_written_response_is_answered.Goals as goal

pub returns : goal.returns
returns c = response_answered

use Rattle.tst_info.proofs.Rewritable.{a_request_can_be_written}
use Rattle.tst_info.proofs.laws.a_read_request_can_be_written.Goals as goal

pub returns-clause-spelling : goal.returns-clause-spelling
returns-clause-spelling c = λ bytes parts m. (a_request_can_be_written bytes parts m).0

pub returns-clause-length : goal.returns-clause-length
returns-clause-length c = λ bytes parts m. (a_request_can_be_written bytes parts m).1

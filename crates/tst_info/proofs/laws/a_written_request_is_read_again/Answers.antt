use Rattle.tst_info.proofs.RequestReadable.{request_read_again}
use Rattle.tst_info.proofs.laws.a_written_request_is_read_again.Goals as goal

pub returns : goal.returns
returns c = request_read_again

use Rattle.tst_info.proofs.InfoReadable.{tst_read_again}
use Rattle.tst_info.proofs.laws.a_written_info_is_read_again.Goals as goal

pub returns : goal.returns
returns c = tst_read_again

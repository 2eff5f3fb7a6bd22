use Rattle.cms_signed.proofs.TokenWritten.{is_read_again}
use Rattle.cms_signed.proofs.laws.a_written_time_stamp_is_read_again.Goals as goal

pub returns : goal.returns
returns c = is_read_again

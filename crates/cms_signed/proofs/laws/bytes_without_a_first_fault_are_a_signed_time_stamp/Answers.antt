use Rattle.cms_signed.proofs.Handed.{faultless_is_read}
use Rattle.cms_signed.proofs.laws.bytes_without_a_first_fault_are_a_signed_time_stamp.Goals as goal

pub returns : goal.returns
returns c = faultless_is_read

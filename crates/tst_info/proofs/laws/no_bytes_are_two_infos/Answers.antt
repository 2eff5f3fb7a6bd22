use Rattle.tst_info.proofs.InfoLemmas.{one_tst}
use Rattle.tst_info.proofs.laws.no_bytes_are_two_infos.Goals as goal

pub returns : goal.returns
returns c = one_tst

use Rattle.evidence_verify.proofs.Holding.{valid_holds_whole}
use Rattle.evidence_verify.proofs.laws.a_record_is_valid_for_the_whole_exactly_where_it_holds.Goals as goal

pub returns : goal.returns
returns c = valid_holds_whole

use Rattle.evidence_verify.proofs.Covered.{covers_is}
use Rattle.evidence_verify.proofs.laws.a_value_is_covered_exactly_by_the_test.Goals as goal

pub returns : goal.returns
returns c = covers_is

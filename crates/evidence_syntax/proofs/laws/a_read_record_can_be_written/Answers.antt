use Rattle.evidence_syntax.proofs.Written.{record_fits, sequence_fits, chains_fit}
use Rattle.evidence_syntax.proofs.laws.a_read_record_can_be_written.Goals as goal

pub returns-clause-whole : goal.returns-clause-whole
returns-clause-whole c = λ bytes r s. record_fits bytes r s

pub returns-clause-chains : goal.returns-clause-chains
returns-clause-chains c = λ bytes r n s. chains_fit bytes r n s

pub returns-clause-sequence : goal.returns-clause-sequence
returns-clause-sequence c = λ bytes r s. sequence_fits bytes r s

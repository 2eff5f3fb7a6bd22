use Rattle.evidence_syntax.proofs.Spelled.{one_spelling}
use Rattle.evidence_syntax.proofs.Readable.{record_readable}
use Rattle.evidence_syntax.proofs.ValidParts.{record_is}
use Rattle.evidence_syntax.proofs.laws.a_record_has_one_spelling.Goals as goal

pub returns-clause-valid : goal.returns-clause-valid
returns-clause-valid c = λ bytes r s. record_is bytes r s

pub returns-clause-spelling : goal.returns-clause-spelling
returns-clause-spelling c = λ bytes r s. one_spelling bytes r s

pub returns-clause-again : goal.returns-clause-again
returns-clause-again c = λ r is. record_readable r is

use Rattle.evidence_syntax.specs.Text.{record_spelling}
use Rattle.evidence_syntax.proofs.Readable.{record_readable}
use Rattle.evidence_syntax.proofs.Written.{record_fits}
use Rattle.evidence_syntax.proofs.laws.a_record_can_be_written.Goals as goal

pub returns : goal.returns
returns c = λ r is. record_fits (record_spelling r) r (record_readable r is)

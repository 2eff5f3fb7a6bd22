use Rattle.evidence_syntax.proofs.Readable.{sequence_readable}
use Rattle.evidence_syntax.proofs.laws.a_spelled_sequence_is_read_again.Goals as goal

pub returns : goal.returns
returns c = λ chains is short. sequence_readable chains is short

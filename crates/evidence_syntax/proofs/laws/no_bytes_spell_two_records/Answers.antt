use Rattle.der_values.specs.Grammar.{from_start}
use Rattle.der_values.proofs.Meaning.{one_meaning}
use Rattle.evidence_syntax.specs.Checks.{record_checks}
use Rattle.evidence_syntax.specs.Record.{record_shape, record_of}
use Rattle.evidence_syntax.proofs.laws.no_bytes_spell_two_records.Goals as goal

pub returns : goal.returns
returns c = λ bytes a b s t. one_meaning record_checks record_shape 0 (λ p stamps. record_of p.0) (from_start bytes) a b s.means t.means

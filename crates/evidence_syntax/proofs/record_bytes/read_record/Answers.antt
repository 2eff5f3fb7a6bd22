use Rattle.std.proofs.Common.{◌≤◌, length, arith}
use Rattle.der_values.specs.Grammar.{from_start}
use Rattle.der_values.proofs.Meaning.{is_meant_unless, is_only_unless}
use Rattle.evidence_syntax.specs.Checks.{is_memory, record_checks}
use Rattle.evidence_syntax.specs.Record.{record_shape, record_of, record_seen, longest_record}
use Rattle.evidence_syntax.proofs.Parts.{if_ok}
use Rattle.evidence_syntax.proofs.record_bytes.read_record.Goals as goal

pub returns-clause-found : goal.returns-clause-found
returns-clause-found c =
    let short : length c.args.bytes.now ≤ longest_record = omega (arith, c.if-bytes-gt-LONGEST_RECORD.false) in
    let meant = is_meant_unless record_checks record_shape 0 (λ p stamps. record_of p.0) (from_start c.args.bytes.now) is_memory record_seen c.whole_record.result (λ i. omega (arith, c.type_inv.bytes i)) c.whole_record.ensures in
    if_ok c.whole_record.result (λ r means. record { short = short; means = means }) meant

pub returns-clause-only : goal.returns-clause-only
returns-clause-only c = λ parts s. is_only_unless record_checks record_shape 0 (λ p stamps. record_of p.0) (from_start c.args.bytes.now) is_memory record_seen c.whole_record.result c.whole_record.ensures parts s.means

use Rattle.evidence_syntax.specs.Record.{record_seen}
use Rattle.evidence_syntax.proofs.Written.{record_fits, sequence_fits}
use Rattle.evidence_syntax.proofs.tests.write_again.Goals as goal

pub write_record-requires : goal.write_record-requires
write_record-requires c = record_fits c.args.bytes.now (record_seen c.in-Ok.read) c.in-Ok.ensures.found

pub write_sequence-requires : goal.write_sequence-requires
write_sequence-requires c = rw c.as_slice.ensures (sequence_fits c.args.bytes.now (record_seen c.in-Ok.read) c.in-Ok.ensures.found)

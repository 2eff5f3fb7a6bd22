use Rattle.der_values.specs.Value.{value}
use Rattle.der_values.specs.Algorithm.{name_seen, name_contents}
use Rattle.der_values.proofs.Lengths.{first_shorter, second_shorter}
use Rattle.tst_info.proofs.writing.imprint_bytes.Goals as goal

pub write_algorithm-requires-clause-short : goal.write_algorithm-requires-clause-short
write_algorithm-requires-clause-short c = first_shorter 48 (name_contents (name_seen c.args.hash.now)) (value 4 c.args.imprint.now) _ c.requires

pub write_tlv-requires-clause-short : goal.write_tlv-requires-clause-short
write_tlv-requires-clause-short c = second_shorter (value 48 (name_contents (name_seen c.args.hash.now))) 4 c.args.imprint.now _ c.requires

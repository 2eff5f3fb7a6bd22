use Rattle.std.proofs.Common.{◌<◌, ◌^◌, [], ◌∷◌, length}
use Rattle.std.specs.List.{flat_map}
use Rattle.der_values.specs.Value.{value, bytes_or_none}
use Rattle.der_values.proofs.Lengths.{inner_shorter}
use Rattle.evidence_syntax.specs.Record.{EvidenceRecord, record_seen}
use Rattle.evidence_syntax.specs.Text.{identifier_text, chain_text, names_text, sequence_spelling, record_contents}
use Rattle.evidence_syntax.proofs.Parts.{five_shorter}
use Rattle.evidence_syntax.proofs.writing.contents_bytes.Goals as goal

names_short : (r : EvidenceRecord) → length (record_contents r) < 2 ^ 32 → length (flat_map identifier_text r.algorithms) < 2 ^ 32
names_short r short = inner_shorter 48 _ _ (five_shorter (value 2 (1 ∷ [])) (names_text r.algorithms) (bytes_or_none r.crypto) (bytes_or_none r.encryption) (sequence_spelling r.chains) _ short).0

chains_short : (r : EvidenceRecord) → length (record_contents r) < 2 ^ 32 → length (flat_map chain_text r.chains) < 2 ^ 32
chains_short r short = inner_shorter 48 _ _ (five_shorter (value 2 (1 ∷ [])) (names_text r.algorithms) (bytes_or_none r.crypto) (bytes_or_none r.encryption) (sequence_spelling r.chains) _ short).1

pub names_bytes-requires : goal.names_bytes-requires
names_bytes-requires c = rw c.as_slice.ensures (names_short (record_seen c.args.parts.now) c.requires)

pub chains_bytes-requires : goal.chains_bytes-requires
chains_bytes-requires c = rw c.as_slice-2.ensures (chains_short (record_seen c.args.parts.now) c.requires)

pub write_tlv-requires-2-clause-short : goal.write_tlv-requires-2-clause-short
write_tlv-requires-2-clause-short c = simp (c.as_slice-3.ensures.value, c.in_ok-names.ensures, c.as_slice.ensures) (names_short (record_seen c.args.parts.now) c.requires)

pub write_tlv-requires-3-clause-short : goal.write_tlv-requires-3-clause-short
write_tlv-requires-3-clause-short c = simp (c.as_slice-4.ensures.value, c.in_ok-chains.ensures, c.as_slice-2.ensures) (chains_short (record_seen c.args.parts.now) c.requires)

use Rattle.der_values.specs.Algorithm.{name_seen}
use Rattle.der_values.proofs.Lengths.{inner_shorter}
use Rattle.evidence_syntax.specs.Text.{identifier_text}
use Rattle.evidence_syntax.proofs.Parts.{place_shorter}
use Rattle.evidence_syntax.proofs.writing.names_bytes.Goals as goal

pub write_algorithm-requires-clause-short : goal.write_algorithm-requires-clause-short
write_algorithm-requires-clause-short c = inner_shorter 48 _ _ (place_shorter name_seen identifier_text c.args.names.now c.loop-name.name-index _ _ c.loop-name-test.true c.requires)

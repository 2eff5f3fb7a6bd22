use Rattle.der_values.specs.Algorithm.{name_seen, name_contents}
use Rattle.der_values.proofs.Lengths.{inner_shorter}
use Rattle.evidence_syntax.proofs.writing.write_hash_name.Goals as goal

pub write_algorithm-requires-clause-short : goal.write_algorithm-requires-clause-short
write_algorithm-requires-clause-short c = inner_shorter 160 (name_contents (name_seen c.in-Some.name)) _ (rw c.in-Some.is at c.requires)

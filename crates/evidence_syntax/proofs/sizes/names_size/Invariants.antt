use Rattle.std.proofs.Common.{length, take, Some}
use Rattle.std.specs.Prelude.{map}
use Rattle.std.specs.List.{flat_map}
use Rattle.der_values.specs.Algorithm.{name_seen}
use Rattle.evidence_syntax.specs.Text.{identifier_text}
use Rattle.evidence_syntax.specs.Inside.{IsSizeOf}
use Rattle.evidence_syntax.proofs.sizes.names_size.Given as goal

abbrev pub invariant-loop-name : goal.invariant-loop-name
invariant-loop-name l = IsSizeOf (length (flat_map identifier_text (map name_seen (take l.name-index l.names)))) (Some l.size)

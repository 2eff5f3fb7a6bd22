use Rattle.std.proofs.Common.{length}
use Rattle.std.specs.Prelude.{map}
use Rattle.der_values.specs.Shape.{tagged}
use Rattle.der_values.specs.Algorithm.{name_of, name_seen}
use Rattle.der_values.proofs.Loop.{ReadSoFar}
use Rattle.evidence_syntax.specs.Checks.{der}
use Rattle.evidence_syntax.specs.Inside.{algorithm_at, each_algorithm}
use Rattle.evidence_syntax.proofs.record_bytes.all_algorithms.Given as goal

abbrev pub invariant-loop-reader : goal.invariant-loop-reader
invariant-loop-reader l = ReadSoFar der (tagged 48) algorithm_at (each_algorithm l.fn.reader) name_of (map name_seen l.names.items) 0 l.reader

abbrev pub decreases-loop-reader : goal.decreases-loop-reader
decreases-loop-reader l = length l.reader.left

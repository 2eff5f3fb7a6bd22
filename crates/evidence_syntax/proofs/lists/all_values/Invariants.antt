use Rattle.std.proofs.Common.{length, ℕ, List}
use Rattle.der_values.specs.Shape.{tagged}
use Rattle.der_values.proofs.Loop.{ReadSoFar}
use Rattle.evidence_syntax.specs.Checks.{der}
use Rattle.evidence_syntax.specs.Inside.{value_at, each_value}
use Rattle.evidence_syntax.proofs.lists.all_values.Given as goal

abbrev pub invariant-loop-reader : goal.invariant-loop-reader
invariant-loop-reader l = ReadSoFar der (tagged 4) value_at (each_value l.fn.so_far.stamps l.fn.reader) (λ (p : List ℕ). p) l.values.items l.fn.so_far.stamps l.reader

abbrev pub decreases-loop-reader : goal.decreases-loop-reader
decreases-loop-reader l = length l.reader.left

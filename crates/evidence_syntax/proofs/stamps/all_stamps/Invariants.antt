use Rattle.std.proofs.Common.{length}
use Rattle.std.specs.Prelude.{map}
use Rattle.der_values.specs.Shape.{tagged}
use Rattle.der_values.proofs.Loop.{ReadSoFar}
use Rattle.evidence_syntax.specs.Checks.{der}
use Rattle.evidence_syntax.specs.Stamps.{stamp_of, stamp_seen}
use Rattle.evidence_syntax.specs.Inside.{stamp_at, each_stamp}
use Rattle.evidence_syntax.proofs.stamps.all_stamps.Given as goal

abbrev pub invariant-loop-reader : goal.invariant-loop-reader
invariant-loop-reader l = ReadSoFar der (tagged 48) stamp_at (each_stamp l.fn.so_far.stamps l.fn.reader) stamp_of (map stamp_seen l.stamps.items) l.so_far.stamps l.reader

abbrev pub decreases-loop-reader : goal.decreases-loop-reader
decreases-loop-reader l = length l.reader.left

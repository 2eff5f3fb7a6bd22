use Rattle.std.proofs.Common.{length}
use Rattle.der_values.specs.Shape.{tagged}
use Rattle.der_values.proofs.Loop.{ReadSoFar}
use Rattle.evidence_syntax.specs.Checks.{der}
use Rattle.evidence_syntax.specs.Lists.{ListParts}
use Rattle.evidence_syntax.specs.Inside.{list_at, each_list}
use Rattle.evidence_syntax.proofs.lists.all_lists.Given as goal

abbrev pub invariant-loop-reader : goal.invariant-loop-reader
invariant-loop-reader l = ReadSoFar der (tagged 48) list_at (each_list l.fn.so_far.stamps l.fn.reader) (λ (p : ListParts). p.0) l.lists.items l.fn.so_far.stamps l.reader

abbrev pub decreases-loop-reader : goal.decreases-loop-reader
decreases-loop-reader l = length l.reader.left

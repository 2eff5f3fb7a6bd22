use Rattle.std.proofs.Common.{length, take, Some}
use Rattle.std.specs.Prelude.{map}
use Rattle.std.specs.List.{flat_map}
use Rattle.evidence_syntax.specs.Stamps.{stamp_seen}
use Rattle.evidence_syntax.specs.Text.{stamp_text}
use Rattle.evidence_syntax.specs.Inside.{IsSizeOf}
use Rattle.evidence_syntax.proofs.sizes.stamps_size.Given as goal

abbrev pub invariant-loop-stamp : goal.invariant-loop-stamp
invariant-loop-stamp l = IsSizeOf (length (flat_map stamp_text (map stamp_seen (take l.stamp-index l.stamps)))) (Some l.size)

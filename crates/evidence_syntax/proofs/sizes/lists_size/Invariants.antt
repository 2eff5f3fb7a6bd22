use Rattle.std.proofs.Common.{length, take, Some}
use Rattle.std.specs.List.{flat_map}
use Rattle.evidence_syntax.specs.Text.{list_text}
use Rattle.evidence_syntax.specs.Inside.{IsSizeOf}
use Rattle.evidence_syntax.proofs.sizes.lists_size.Given as goal

abbrev pub invariant-loop-list : goal.invariant-loop-list
invariant-loop-list l = IsSizeOf (length (flat_map list_text (take l.list-index l.lists))) (Some l.size)

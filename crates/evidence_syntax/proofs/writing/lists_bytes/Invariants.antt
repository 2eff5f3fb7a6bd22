use Rattle.std.proofs.Common.{◌≡◌, take}
use Rattle.std.specs.List.{flat_map}
use Rattle.evidence_syntax.specs.Text.{list_text}
use Rattle.evidence_syntax.proofs.writing.lists_bytes.Given as goal

abbrev pub invariant-loop-list : goal.invariant-loop-list
invariant-loop-list l = l.contents.items ≡ flat_map list_text (take l.list-index l.lists)

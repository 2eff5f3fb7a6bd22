use Rattle.std.proofs.Common.{◌≡◌, take}
use Rattle.std.specs.Prelude.{map}
use Rattle.std.specs.List.{flat_map}
use Rattle.evidence_syntax.specs.Stamps.{stamp_seen}
use Rattle.evidence_syntax.specs.Text.{stamp_text}
use Rattle.evidence_syntax.proofs.writing.stamps_bytes.Given as goal

abbrev pub invariant-loop-stamp : goal.invariant-loop-stamp
invariant-loop-stamp l = l.contents.items ≡ flat_map stamp_text (map stamp_seen (take l.stamp-index l.stamps))

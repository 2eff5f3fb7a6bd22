use Rattle.std.proofs.Common.{◌≡◌, take}
use Rattle.std.specs.Prelude.{sum_by}
use Rattle.evidence_tool.proofs.DocumentsLemmas.{room}
use Rattle.evidence_tool.proofs.reply.room_of.Given as goal

-- the room of the documents so far
abbrev pub invariant-loop-document : goal.invariant-loop-document
invariant-loop-document l = l.room ≡ sum_by room (take l.document-index l.documents)

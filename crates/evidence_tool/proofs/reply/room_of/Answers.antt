use Rattle.std.proofs.Common.{◌<◌, length, ap, arith}
use Rattle.evidence_tool.proofs.DocumentsLemmas.{few_bytes}
use Rattle.evidence_tool.proofs.reply.room_of.Goals as goal

pub overflow_add-room-in-loop-document : goal.overflow_add-room-in-loop-document
overflow_add-room-in-loop-document c =
    let i = c.loop-document.document-index in
    let below : i < length c.args.documents.now = omega arith in
    omega (arith, few_bytes c.args.documents.now i c.requires below, c.loop-document.invariant, ap length c.document-item.is, ap length c.as_slice.ensures)

use Rattle.std.proofs.Common.{◌≡◌, ◌+◌, ◌≤◌, ◌++◌, take, drop, flat_map, vec_len}
use Rattle.std.specs.Prelude.{sum_by, vec_capacity}
use Rattle.evidence_tool.specs.Requests.{document_text}
use Rattle.evidence_tool.proofs.DocumentsLemmas.{room}
use Rattle.evidence_tool.proofs.reply.add_documents.Given as goal

-- the documents so far, and room for the others
abbrev pub invariant-loop-document : goal.invariant-loop-document
invariant-loop-document l = record {
  text : l.out.items ≡ l.initial.out.items ++ flat_map document_text (take l.document-index l.documents);
  left : vec_len l.out + sum_by room (drop l.document-index l.documents) ≤ vec_capacity l.out;
  capacity : vec_capacity l.initial.out ≤ vec_capacity l.out;
}

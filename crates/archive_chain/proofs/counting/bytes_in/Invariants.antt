use Rattle.std.proofs.Common.{◌≡◌, ◌+◌, drop}
use Rattle.std.specs.Prelude.{length, sum_by}
use Rattle.archive_chain.proofs.counting.bytes_in.Given as goal

abbrev pub invariant-loop-document : goal.invariant-loop-document
invariant-loop-document l = l.bytes + sum_by length (drop l.document-index l.document-items) ≡ sum_by length l.document-items

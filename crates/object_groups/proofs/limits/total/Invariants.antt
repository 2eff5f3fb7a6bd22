use Rattle.std.proofs.Common.{◌≡◌, ◌+◌, ◌*◌, ◌≤◌, None, drop}
use Rattle.object_groups.specs.Groups.{first_long, bytes_in, longest_document}
use Rattle.object_groups.proofs.limits.total.Given as goal

abbrev pub invariant-loop-document : goal.invariant-loop-document
invariant-loop-document l =
    (l.total + bytes_in (drop l.document-index l.documents) ≡ bytes_in l.fn.documents) × (l.total ≤ l.document-index * longest_document)
    × (first_long (drop l.document-index l.documents) ≡ None)

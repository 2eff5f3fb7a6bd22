use Rattle.std.proofs.Common.{◌≡◌, drop}
use Rattle.object_groups.specs.Groups.{first_long}
use Rattle.object_groups.proofs.LimitLemmas.{shifted}
use Rattle.object_groups.proofs.limits.first_long.Given as goal

abbrev pub invariant-loop-document : goal.invariant-loop-document
invariant-loop-document l = (l.place ≡ l.document-index) × (shifted l.place (first_long (drop l.document-index l.documents)) ≡ first_long l.fn.documents)

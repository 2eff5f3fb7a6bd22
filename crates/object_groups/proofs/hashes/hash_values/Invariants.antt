use Rattle.std.proofs.Common.{◌≡◌, ◌++◌, drop}
use Rattle.object_groups.specs.Groups.{values_of}
use Rattle.object_groups.proofs.hashes.hash_values.Given as goal

abbrev pub invariant-loop-document : goal.invariant-loop-document
invariant-loop-document l = l.values.items ++ values_of l.alg (drop l.document-index l.document-items) ≡ values_of l.fn.alg l.fn.group

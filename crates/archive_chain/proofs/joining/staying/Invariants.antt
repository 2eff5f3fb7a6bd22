use Rattle.std.proofs.Common.{◌≡◌, ◌++◌, drop}
use Rattle.archive_chain.specs.InsidePieces.{staying}
use Rattle.archive_chain.proofs.joining.staying.Given as goal

abbrev pub invariant-loop-at : goal.invariant-loop-at
invariant-loop-at l = l.all.items ++ staying l.cohorts (drop l.at l.names) (drop l.at l.items) ≡ staying l.cohorts l.names l.items

use Rattle.std.proofs.Common.{take}
use Rattle.std.specs.List.{AllByRecursion}
use Rattle.evidence_syntax.specs.Valid.{IsHash}
use Rattle.archive_chain.proofs.sequence.are_hashes.Given as goal

abbrev pub invariant-loop-value : goal.invariant-loop-value
invariant-loop-value l = AllByRecursion IsHash (take l.value-index l.values)

use Rattle.std.proofs.Common.{◌≡◌, ◌++◌, map, drop}
use Rattle.der_values.specs.Algorithm.{name_seen}
use Rattle.archive_chain.specs.Sequence.{name_of}
use Rattle.archive_issue.proofs.hashes.names.Given as goal

abbrev pub invariant-loop-alg : goal.invariant-loop-alg
invariant-loop-alg l = map name_seen l.names.items ++ map name_of (drop l.alg-index l.hashes) ≡ map name_of l.hashes

use Rattle.std.proofs.Common.{length}
use Rattle.algorithm_policy.specs.Inside.{ReadSoFar}
use Rattle.algorithm_policy.proofs.reading.read_lines.Given as goal

abbrev pub invariant-loop-left : goal.invariant-loop-left
invariant-loop-left l = ReadSoFar l.fn.lines l.left l.number l.policy

abbrev pub decreases-loop-left : goal.decreases-loop-left
decreases-loop-left l = length l.left

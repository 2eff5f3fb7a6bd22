use Rattle.std.proofs.Common.{◌-◌}
use Rattle.lms_sign.specs.Inside.{AreNodes}
use Rattle.lms_sign.proofs.tree.Tree.grow.Given as goal

abbrev pub invariant-loop-made : goal.invariant-loop-made
invariant-loop-made l = AreNodes l.secret (l.ends - l.made) l.nodes.items

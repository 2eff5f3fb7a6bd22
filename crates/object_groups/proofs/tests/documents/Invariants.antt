use Rattle.std.proofs.Common.{◌<◌}
use Rattle.std.specs.Vec.{vec_len}
use Rattle.object_groups.proofs.tests.documents.Given as goal

abbrev pub invariant-loop-size : goal.invariant-loop-size
invariant-loop-size l = vec_len l.documents < 100

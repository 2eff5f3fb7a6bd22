use Rattle.std.proofs.Common.{arith}
use Rattle.std.proofs.lemmas.Grind.{common_steps}
use Rattle.lms_sign.specs.Lms.{lms_public}
use Rattle.lms_sign.proofs.tree.Tree.public.Goals as goal

pub returns : goal.returns
unfolding lms_public
returns c = grind (arith, common_steps)

use Rattle.lms_sign.proofs.Numbers.{same_below, same_index}
use Rattle.lms_sign.proofs.laws.no_leaf_signs_twice.Goals as goal

pub returns-clause-last : goal.returns-clause-last
returns-clause-last c = same_index

pub returns-clause-above : goal.returns-clause-above
returns-clause-above c = same_below

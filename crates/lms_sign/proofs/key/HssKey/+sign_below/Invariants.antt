use Rattle.std.proofs.Common.{◌-◌}
use Rattle.lms_sign.proofs.key.HssKey.+sign_below.Given as goal

abbrev pub decreases-sign_below : goal.decreases-sign_below
decreases-sign_below l = l.self.now.levels - l.level

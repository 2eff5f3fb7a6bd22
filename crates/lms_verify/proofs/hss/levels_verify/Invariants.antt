use Rattle.std.proofs.Common.{◌≡◌, ◌-◌}
use Rattle.lms_verify.specs.Hss.{levels_verify}
use Rattle.lms_verify.proofs.hss.levels_verify.Given as goal

abbrev pub invariant-loop-level : goal.invariant-loop-level
invariant-loop-level l =
    levels_verify (l.count - l.level) l.key l.message l.left ≡ levels_verify l.fn.count l.fn.top_key l.fn.message l.fn.signature

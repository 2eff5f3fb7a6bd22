use Rattle.std.proofs.Common.{◌≡◌, ◌-◌, ◌++◌, take, drop}
use Rattle.std.specs.Int.{w16, w32, to_be_bytes}
use Rattle.lms_verify.specs.Ots.{after_steps}
use Rattle.lms_verify.proofs.ots.after_steps.Given as goal

abbrev pub invariant-loop-step : goal.invariant-loop-step
invariant-loop-step l =
    (after_steps (l.end - l.step) l.identifier l.leaf l.i l.step (drop 23 l.message) ≡ after_steps (l.fn.end - l.fn.first) l.fn.identifier l.fn.leaf l.fn.i l.fn.first l.fn.start)
    × (take 22 l.message ≡ l.identifier ++ to_be_bytes w32 l.leaf ++ to_be_bytes w16 l.i)

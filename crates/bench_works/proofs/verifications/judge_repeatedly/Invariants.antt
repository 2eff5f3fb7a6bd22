use Rattle.std.proofs.Common.{◌≡◌}
use Rattle.bench_works.specs.Repeated.{yes_among, is_valid}
use Rattle.bench_works.proofs.verifications.judge_repeatedly.Given as goal

abbrev pub invariant-loop-done : goal.invariant-loop-done
invariant-loop-done l = l.valid ≡ yes_among l.done (is_valid l.verdict)

use Rattle.std.proofs.Common.{◌≡◌}
use Rattle.lms_verify.specs.Hss.{hss_verifies}
use Rattle.bench_works.specs.Repeated.{yes_among}
use Rattle.bench_works.proofs.verifications.check_repeatedly.Given as goal

abbrev pub invariant-loop-done : goal.invariant-loop-done
invariant-loop-done l = l.verified ≡ yes_among l.done (hss_verifies l.signed.key l.signed.message.items l.signed.signature.now)

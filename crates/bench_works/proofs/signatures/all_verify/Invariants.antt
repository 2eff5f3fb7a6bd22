use Rattle.std.proofs.Common.{◌≡◌, ◌⊎◌, ◌↔◌, IsTrue}
use Rattle.lms_verify.specs.Hss.{Verifies}
use Rattle.bench_works.proofs.signatures.all_verify.Given as goal

abbrev pub invariant-loop-done : goal.invariant-loop-done
invariant-loop-done l = IsTrue l.all ↔ ((l.done ≡ 0) ⊎ Verifies l.key l.message l.signature)

use Rattle.std.proofs.Common.{◌≡◌, ◌-◌}
use Rattle.bench_works.specs.Chained.{padded_digest, chained}
use Rattle.bench_works.proofs.digests.padded_digests.Given as goal

abbrev pub invariant-loop-done : goal.invariant-loop-done
invariant-loop-done l = chained padded_digest (l.count - l.done) l.value ≡ chained padded_digest l.fn.count l.fn.start

use Rattle.std.proofs.Common.{◌≡◌, ◌-◌}
use Rattle.sha2.specs.Sha256.{sha256}
use Rattle.bench_works.specs.Chained.{chained}
use Rattle.bench_works.proofs.digests.blocks.Given as goal

abbrev pub invariant-loop-done : goal.invariant-loop-done
invariant-loop-done l = chained sha256 (l.count - l.done) l.value ≡ chained sha256 l.fn.count l.fn.start

use Rattle.std.proofs.Common.{◌+◌, ◌-◌, sym, ap, ◌∙◌}
use Rattle.sha2.specs.Sha256.{sha256}
use Rattle.bench_works.specs.Chained.{chained}
use Rattle.bench_works.proofs.ChainedLemmas.{one_more, all_done}
use Rattle.bench_works.proofs.digests.blocks.Goals as goal

pub loop-done-preserved : goal.loop-done-preserved
loop-done-preserved c =
    ap (chained sha256 (c.args.count - (c.loop-done.done + 1))) c.digest-value.ensures
    ∙ sym (one_more sha256 c.args.count c.loop-done.done c.loop-done.value c.loop-done-test.true)
    ∙ c.loop-done.invariant

pub returns : goal.returns
returns c =
    sym (all_done sha256 c.args.count c.loop-done.done c.loop-done.value c.loop-done-test.false) ∙ c.loop-done.invariant

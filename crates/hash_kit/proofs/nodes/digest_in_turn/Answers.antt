use Rattle.std.proofs.Common.{subst}
use Rattle.hash_kit.specs.Hashing.{Hashes}
use Rattle.hash_kit.proofs.NodeLemmas.{one_more}
use Rattle.hash_kit.proofs.nodes.digest_in_turn.Goals as goal

pub loop-value-preserved : goal.loop-value-preserved
loop-value-preserved c =
    let same = one_more c.args.values.now c.loop-value.value-index c.value-item.result c.loop-value-test.true c.value-item.is in
    subst (Hashes c.update.new.self c.args.alg) same (rw c.bytes.ensures.bytes at (c.update.ensures _ _ c.loop-value.invariant))

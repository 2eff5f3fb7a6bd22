use Rattle.std.proofs.Common.{ℕ, List, subst}
use Rattle.hash_kit.specs.Hashing.{Hashes}
use Rattle.evidence_syntax.proofs.Parts.{one_more}
use Rattle.verdict_rows.proofs.values.root.Goals as goal

pub loop-value-preserved : goal.loop-value-preserved
loop-value-preserved c =
    let same = one_more (λ (v : List ℕ). v) c.args.values.now c.loop-value.value-index c.value-item.result c.loop-value-test.true c.value-item.is in
    subst (Hashes c.update.new.self c.args.alg) same (rw c.bytes.ensures.bytes at (c.update.ensures _ _ c.loop-value.invariant))

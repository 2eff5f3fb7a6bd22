use Rattle.hash_kit.proofs.NodeLemmas.{sorted_node}
use Rattle.hash_kit.proofs.nodes.node.Goals as goal

pub returns : goal.returns
returns c =
    let same = c.in_ok-ascending.ensures.items in
    rw (c.digest_in_turn.ensures, c.as_slice.ensures.value)
    (sorted_node c.args.alg c.args.values.now _ c.if-values-eq1.false (rw same at c.sort_unstable.ensures.permutation) c.sort_unstable.ensures.sorted)

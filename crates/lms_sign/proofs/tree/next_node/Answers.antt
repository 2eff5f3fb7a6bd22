use Rattle.std.proofs.Common.{◌≡◌, ◌+◌, ◌*◌, ◌≤◌, sym, subst, ◌∙◌, arith}
use Rattle.lms_sign.specs.Lms.{leaves_of, node, inner_node}
use Rattle.lms_sign.proofs.Nodes.{made_before, node_leaf, node_inner}
use Rattle.lms_sign.proofs.tree.next_node.Goals as goal

pub returns-then-r-leaves : goal.returns-then-r-leaves
returns-then-r-leaves c =
    let tree = c.args.tree.now in
    let low : leaves_of tree ≤ c.args.r = subst (λ n. n ≤ c.args.r) c.leaves_of-leaves.ensures.value c.if-r-leaves.true in
    c.leaf_node.ensures ∙ sym (node_leaf tree c.args.r low)

pub returns : goal.returns
unfolding inner_node
returns c =
    let tree = c.args.tree.now in
    let r = c.args.r in
    let all = c.leaves_of-leaves.ensures.value in
    let later = c.args.later.now in
    let left : c.bytes.result.now ≡ node tree (2 * r) = c.bytes.ensures.bytes
    ∙ made_before tree r (2 * r) _ later _ c.requires.later (omega arith) (omega arith) (omega arith) c.index-later-right.is in
    let right : c.bytes-2.result.now ≡ node tree (2 * r + 1) = c.bytes-2.ensures.bytes
    ∙ made_before tree r (2 * r + 1) _ later _ c.requires.later (omega arith) (omega arith) (omega arith) c.index-later-right-2.is in
    c.hash.ensures.value
    ∙ (λ k. inner_node tree r (left k) (right k))
    ∙ sym (node_inner tree r (omega arith) (omega arith))

use Rattle.std.proofs.Common.{◌≡◌, ◌+◌, ◌/◌, ◌^◌, ◌<◌, ◌≤◌, ◌++◌, ℕ, List, sym, ap, subst, ◌∙◌, arith, append_assoc}
use Rattle.lms_verify.specs.Ots.{joined}
use Rattle.lms_verify.specs.Lms.{height_of}
use Rattle.lms_verify.proofs.Loops.{joined_more}
use Rattle.lms_sign.specs.declared.secret.TreeSecret.{TreeSecret}
use Rattle.lms_sign.specs.Lms.{leaves_of, node, sibling_of, path_of}
use Rattle.lms_sign.proofs.Nodes.{above_root, sibling_some, halved_more}
use Rattle.lms_sign.proofs.tree.Tree.write_path.Goals as goal

some_left : (height end leaf level r : ℕ) → end ≡ height → level < end → r ≡ (2 ^ height + leaf) / 2 ^ level → 2 ≤ r
some_left height end leaf level r e h at =
    let below : level < height = omega arith in
    subst (λ n. 2 ≤ n) (sym at) (above_root height leaf level below)

pub sibling_of-requires-clause-low : goal.sibling_of-requires-clause-low
sibling_of-requires-clause-low c =
    let is : c.self.inside.secret ≡ c.args.self.now = cc in
    let end = c.height_of-level-end.ensures.value ∙ ap (λ (tree : TreeSecret). height_of tree.lms_type) is in
    let two = some_left (height_of c.args.self.now.lms_type) _ c.args.leaf _ c.loop-level.r end c.loop-level-test.true c.loop-level.invariant.at in
    omega (arith, two)

pub node-requires-clause-some : goal.node-requires-clause-some
node-requires-clause-some c =
    let is : c.self.inside.secret ≡ c.args.self.now = cc in
    let end = c.height_of-level-end.ensures.value ∙ ap (λ (tree : TreeSecret). height_of tree.lms_type) is in
    let two = some_left (height_of c.args.self.now.lms_type) _ c.args.leaf _ c.loop-level.r end c.loop-level-test.true c.loop-level.invariant.at in
    subst (λ n. 0 < n) (sym c.sibling_of.ensures) (sibling_some c.loop-level.r two)

one_more : (f : ℕ → List ℕ) (level : ℕ) (out now new part : List ℕ) → now ≡ out ++ joined f level → new ≡ now ++ part → part ≡ f level → new ≡ out ++ joined f (level + 1)
one_more f level out now new part p q r =
    q ∙ (λ k. p k ++ r k) ∙ append_assoc out (joined f level) (f level) ∙ ap (λ l. out ++ l) (sym (joined_more f level))

pub loop-level-preserved : goal.loop-level-preserved
loop-level-preserved c =
    let tree = c.args.self.now in
    let leaf = c.args.leaf in
    let level = c.loop-level.level in
    let n : ℕ = leaves_of tree + leaf in
    let part : c.bytes.result.now ≡ node tree (sibling_of (n / 2 ^ level)) =
    c.bytes.ensures.bytes ∙ c.node.ensures ∙ ap (node tree) (c.sibling_of.ensures ∙ ap sibling_of c.loop-level.invariant.at) in
    record {
      written = one_more (λ i. node tree (sibling_of (n / 2 ^ i))) level c.args.out.now.items c.loop-level.out.items c.extend_from_slice.new.self.items c.bytes.result.now c.loop-level.invariant.written c.in_ok-extend_from_slice.ensures.items part;
      at = ap (λ r. r / 2) c.loop-level.invariant.at ∙ halved_more n level;
    }

pub returns : goal.returns
unfolding path_of
returns c =
    let tree = c.args.self.now in
    let n : ℕ = leaves_of tree + c.args.leaf in
    let is : c.self.inside.secret ≡ tree = cc in
    let end = c.height_of-level-end.ensures.value ∙ ap (λ (t : TreeSecret). height_of t.lms_type) is in
    let all : c.loop-level.level ≡ height_of tree.lms_type = omega (arith, end) in
    c.loop-level.invariant.written
    ∙ ap (λ k. c.args.out.now.items ++ joined (λ i. node tree (sibling_of (n / 2 ^ i))) k) all

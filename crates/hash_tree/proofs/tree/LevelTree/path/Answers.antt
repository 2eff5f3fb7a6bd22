use Rattle.std.proofs.Common.{◌<◌, ◌++◌, length, ap, ◌∙◌, arith, List, ℕ}
use Rattle.hash_tree.specs.Tree.{tree_path}
use Rattle.hash_tree.specs.Levels.{Covered, lowest}
use Rattle.hash_tree.specs.Inside.{neighbours, beside}
use Rattle.hash_tree.proofs.LevelLemmas.{levels_path, level_ahead, none_ahead, added, finished}
use Rattle.hash_tree.proofs.tree.LevelTree.path.Goals as goal

pub loop-level-init : goal.loop-level-init
loop-level-init c =
    let inside = c.self.inside in
    let h : c.args.place < length (lowest inside.levels.items) = omega (arith, c.requires, ap (λ (v : Covered). length v.leaves) c.self.view_is) in
    ap (λ (l : List (List ℕ)). l ++ neighbours c.deref-level-items.result.now c.args.place) c.in_ok-path.ensures.items
    ∙ ap (λ (l : List (List (List ℕ))). neighbours l c.args.place) c.deref-level-items.ensures.value
    ∙ levels_path inside.alg inside.levels.items (lowest inside.levels.items) c.args.place c.self.invariant.0 h
    ∙ ap (λ (v : Covered). tree_path v.alg v.leaves c.args.place) c.self.view_is

pub loop-level-preserved : goal.loop-level-preserved
loop-level-preserved c =
    let near = c.in_ok-push_neighbour.ensures ∙ ap (λ (l : List (List ℕ)). c.loop-level.path.items ++ beside l c.loop-level.place) c.as_slice.ensures in
    added _ _ _ _ _ _ near
    (level_ahead c.deref-level-items.result.now c.loop-level.level-index c.loop-level.place c.level-item.result c.loop-level-test.true c.level-item.is) c.loop-level.invariant

pub returns : goal.returns
returns c =
    c.from_vec.ensures
    ∙ finished _ _ _ (none_ahead c.deref-level-items.result.now c.loop-level.level-index c.loop-level.place (omega (arith, c.loop-level-test.false))) c.loop-level.invariant

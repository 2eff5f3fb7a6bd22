use Rattle.std.proofs.Common.{◌≡◌, ◌<◌, length, get_or, ap, sym, ◌∙◌, subst, arith, List, ℕ}
use Rattle.hash_tree.specs.Tree.{tree_root}
use Rattle.hash_tree.specs.Inside.{AreLevels, pairs}
use Rattle.hash_tree.proofs.RootLemmas.{length_pairs, root_above}
use Rattle.hash_tree.proofs.LevelLemmas.{one_more, all_levels, are_lowest, root_of_one}
use Rattle.hash_tree.proofs.tree.LevelTree.build.Goals as goal

above_is : (c : goal.In_ok-push) → c.in_ok-above.above ≡ pairs c.args.alg c.loop-alloc.level
above_is c = c.in_ok-above.ensures ∙ ap (pairs c.args.alg) c.as_slice-in-loop-alloc.ensures

is_long : (c : goal.In_ok-push) → 1 < length c.loop-alloc.level
is_long c = omega (arith, c.loop-alloc-test.true, ap length c.as_slice.ensures)

pub loop-alloc-smaller : goal.loop-alloc-smaller
loop-alloc-smaller c =
    let h : length c.in_ok-above.above < length c.loop-alloc.level =
    omega (arith, ap length (above_is c), length_pairs c.args.alg c.loop-alloc.level, is_long c) in
    h

pub loop-alloc-preserved : goal.loop-alloc-preserved
loop-alloc-preserved c =
    let e = above_is c in (
      omega (arith, ap length e, length_pairs c.args.alg c.loop-alloc.level, is_long c),
      ap (tree_root c.args.alg) e ∙ sym (root_above c.args.alg c.loop-alloc.level) ∙ c.loop-alloc.invariant.1,
      λ above is.
          one_more c.args.alg c.args.leaves c.loop-alloc.level c.loop-alloc.levels.items c.push.new.self.items c.loop-alloc.invariant.2 c.in_ok-push.ensures.items above
          (subst (λ (l : List (List ℕ)). AreLevels c.args.alg l above) e is),
    )

is_one : (c : goal.In_ok-push-2) → length c.loop-alloc.level ≡ 1
is_one c = omega (arith, c.loop-alloc-test.false, ap length c.as_slice.ensures, c.loop-alloc.invariant.0)

leaves_of : (c : goal.In_ok-push-2) → AreLevels c.args.alg c.args.leaves c.push-2.new.self.items
leaves_of c =
    all_levels c.args.alg c.args.leaves c.loop-alloc.level c.loop-alloc.levels.items c.push-2.new.self.items c.loop-alloc.invariant.2 c.in_ok-push-2.ensures.items
    (is_one c)

pub returns-clause-leaves : goal.returns-clause-leaves
returns-clause-leaves c = are_lowest c.args.alg c.args.leaves c.push-2.new.self.items (leaves_of c)

pub invariant_of-result : goal.invariant_of-result
invariant_of-result c =
    let is = leaves_of c in
    let e = are_lowest c.args.alg c.args.leaves c.push-2.new.self.items is in
    let at : c.index-as_slice-0.result ≡ get_or c.loop-alloc.level 0 c.index-as_slice-0.result =
    c.index-as_slice-0.is ∙ ap (λ (l : List (List ℕ)). get_or l 0 c.index-as_slice-0.result) c.as_slice-2.ensures in (
      subst (λ (l : List (List ℕ)). AreLevels c.args.alg l c.push-2.new.self.items) (sym e) is,
      root_of_one c.args.alg c.loop-alloc.level c.index-as_slice-0.result (is_one c) at ∙ c.loop-alloc.invariant.1 ∙ ap (tree_root c.args.alg) (sym e),
    )

use Rattle.std.proofs.Common.{◌≡◌, suc, ◌+◌, ◌<◌, ◌≤◌, ◌∷◌, ◌++◌, length, drop, get_or, ap, sym, ◌∙◌, arith, List, ℕ, Vec, Global}
use Rattle.hash_kit.specs.declared.value.HashValue.{HashValue}
use Rattle.hash_tree.specs.Inside.{pairs}
use Rattle.hash_tree.proofs.LevelLemmas.{pair_ahead, last_ahead, nothing_ahead, pushed, finished}
use Rattle.hash_tree.proofs.levels.level_above.Goals as goal
use Rattle.hash_tree.proofs.levels.level_above.Goals.{then-place-level+in_ok-push-2, else-place-level}

pub loop-place-preserved : goal.loop-place-preserved
loop-place-preserved c =
    let at = c.loop-place.place in
    let h : at + 1 < length c.args.level.now = omega (arith, c.loop-place-test.true, c.loop-place.invariant.0) in
    let next : at + 1 ≡ suc at = omega arith in
    let value = c.index-level-place.result in
    let other = c.index-level-place-in-loop-place.result in
    let second : other ≡ get_or c.args.level.now (suc at) other = c.index-level-place-in-loop-place.is ∙ ap (λ (k : ℕ). get_or c.args.level.now k other) next in
    let ahead = pair_ahead c.args.alg at c.args.level.now value other h c.index-level-place.is second ∙ ap (λ (l : List ℕ). l ∷ pairs c.args.alg (drop (at + 2) c.args.level.now)) (sym c.node_of_two.ensures) in
    (omega (arith, h), pushed _ _ _ _ _ _ c.in_ok-push.ensures.items ahead c.loop-place.invariant.1)

pub returns : goal.returns
returns c =
    elim c.if-place-level.branch [
      | then-place-level+in_ok-push-2 w ↦
          let h : c.loop-place.place + 1 ≡ length c.args.level.now = omega (arith, c.loop-place-test.false, w.if-place-level.true) in
          let last = last_ahead c.args.alg c.loop-place.place c.args.level.now w.index-level-place-then-place-level.result h w.index-level-place-then-place-level.is in
          c.from_vec.ensures
          ∙ ap (λ (v : Vec HashValue Global). v.items) w.above-is
          ∙ w.in_ok-push-2.ensures.items
          ∙ ap (λ (l : List (List ℕ)). c.loop-place.above.items ++ l) (sym last)
          ∙ c.loop-place.invariant.1
      | else-place-level w ↦
          let h : length c.args.level.now ≤ c.loop-place.place = omega (arith, w.if-place-level.false) in
          let all = finished _ _ _ (nothing_ahead c.args.alg c.loop-place.place c.args.level.now h) c.loop-place.invariant.1 in
          c.from_vec.ensures ∙ ap (λ (v : Vec HashValue Global). v.items) w.above-is ∙ all
    ]

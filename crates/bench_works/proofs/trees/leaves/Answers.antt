use Rattle.std.proofs.Common.{◌≡◌, ℕ, zero, suc, ◌+◌, [], ◌∷◌, ◌++◌, length, length-append, sym, ap, ◌∙◌, arith}
use Rattle.std.specs.Prelude.{map}
use Rattle.std.specs.List.{range_with_len}
use Rattle.bench_works.specs.Leaves.{leaf_of}
use Rattle.bench_works.proofs.trees.leaves.Goals as goal

one_more : (n first : ℕ) → map leaf_of (range_with_len first n) ++ leaf_of (first + n) ∷ [] ≡ map leaf_of (range_with_len first (suc n))
one_more zero first =
    let none : first + zero ≡ first = omega arith in
    ap (λ k. leaf_of k ∷ []) none
one_more (suc n) first =
    let end : first + suc n ≡ first + 1 + n = omega arith in
    ap (λ k. leaf_of first ∷ (map leaf_of (range_with_len (first + 1) n) ++ leaf_of k ∷ [])) end ∙ ap (λ l. leaf_of first ∷ l) (one_more n (first + 1))

pub loop-number-preserved : goal.loop-number-preserved
loop-number-preserved c =
    let n = c.loop-number.number in
    let next : suc n ≡ n + 1 = omega arith in
    let zeroth : 0 + n ≡ n = omega arith in (
      c.in_ok-push.ensures.items
          ∙ ap (λ l. l ++ c.leaf.result ∷ []) c.loop-number.invariant.0
          ∙ ap (λ v. map leaf_of (range_with_len 0 n) ++ v ∷ []) (c.leaf.ensures ∙ ap leaf_of (sym zeroth))
          ∙ one_more n 0
          ∙ ap (λ k. map leaf_of (range_with_len 0 k)) next,
      omega (arith, ap length c.in_ok-push.ensures.items, length-append c.loop-number.leaves.items (c.leaf.result ∷ []), c.loop-number.invariant.1),
    )

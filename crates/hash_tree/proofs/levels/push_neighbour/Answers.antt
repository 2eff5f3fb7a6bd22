use Rattle.std.proofs.Common.{◌≡◌, ◌+◌, ◌-◌, ◌*◌, ◌%◌, ◌++◌, List, ℕ, ap, sym, ◌∙◌, arith, append-nil}
use Rattle.hash_tree.proofs.PathLemmas.{one_at, beside_there, beside_none}
use Rattle.hash_tree.proofs.levels.push_neighbour.Goals as goal
use Rattle.hash_tree.proofs.levels.push_neighbour.Goals.{then-place-eq0, else-place-eq0}

pub returns-in_ok-extend_from_slice : goal.returns-in_ok-extend_from_slice
returns-in_ok-extend_from_slice c =
    let other = c.if-place-eq0.other in
    let e : other ≡ c.args.place + 1 - 2 * (c.args.place % 2) =
    elim c.if-place-eq0.branch [ then-place-eq0 w ↦ omega (arith, w.if-place-eq0.true, w.other-is) | else-place-eq0 w ↦ omega (arith, w.if-place-eq0.false, w.other-is) ] in
    let one = one_at c.args.level.now other (other + 1 - other) (omega arith) c.if-other-level.true in
    let near = beside_there c.args.level.now c.args.place other one.0 e c.if-other-level.true one.1 in
    c.in_ok-extend_from_slice.ensures.items ∙ ap (λ (l : List (List ℕ)). c.args.path.now.items ++ l) (one.2 ∙ sym near)

pub returns-else-other-level : goal.returns-else-other-level
returns-else-other-level c =
    let e : c.if-place-eq0.other ≡ c.args.place + 1 - 2 * (c.args.place % 2) =
    elim c.if-place-eq0.branch [ then-place-eq0 w ↦ omega (arith, w.if-place-eq0.true, w.other-is) | else-place-eq0 w ↦ omega (arith, w.if-place-eq0.false, w.other-is) ] in
    let near = beside_none c.args.level.now c.args.place c.if-place-eq0.other e (omega (arith, c.if-other-level.false)) in
    sym (append-nil c.args.path.now.items) ∙ ap (λ (l : List (List ℕ)). c.args.path.now.items ++ l) (sym near)

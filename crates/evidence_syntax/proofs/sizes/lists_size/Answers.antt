use Rattle.std.proofs.Common.{ℕ, List}
use Rattle.std.specs.List.{flat_map}
use Rattle.der_values.specs.Value.{value}
use Rattle.evidence_syntax.proofs.SizeLemmas.{more, one_too_long, all_too_long}
use Rattle.evidence_syntax.proofs.sizes.lists_size.Goals as goal

pub returns-in_err-values_size : goal.returns-in_err-values_size
returns-in_err-values_size c =
    let x = c.list-item.result in
    one_too_long 48 (λ (values : List (List ℕ)). flat_map (λ v. value 4 v) values) c.args.lists.now c.loop-list.list-index x _ c.loop-list-test.true c.list-item.is (rw c.as_slice.ensures at c.in_err-values_size.ensures) c.from_residual.ensures

pub returns-in_err-size : goal.returns-in_err-size
returns-in_err-size c =
    let x = c.list-item.result in
    all_too_long 48 (λ (values : List (List ℕ)). flat_map (λ v. value 4 v) values) c.args.lists.now c.loop-list.list-index x c.loop-list.size c.in_ok-values_size.field-0 _ c.loop-list-test.true c.list-item.is
    c.loop-list.invariant.1 (rw c.as_slice.ensures at c.in_ok-values_size.ensures.1) c.in_err-size.ensures c.from_residual-in_err-size.ensures

pub loop-list-preserved : goal.loop-list-preserved
loop-list-preserved c =
    let x = c.list-item.result in
    more 48 (λ (values : List (List ℕ)). flat_map (λ v. value 4 v) values) c.args.lists.now c.loop-list.list-index x c.loop-list.size c.in_ok-values_size.field-0 _ c.loop-list-test.true c.list-item.is
    c.loop-list.invariant.1 (rw c.as_slice.ensures at c.in_ok-values_size.ensures.1) c.in_ok-size.ensures

use Rattle.std.proofs.Common.{◌≡◌, ℕ, ◌+◌, Bool, true, false, sym, ap, ◌∙◌}
use Rattle.bench_works.specs.Repeated.{yes_among, is_valid}
use Rattle.bench_works.proofs.verifications.judge_repeatedly.Goals as goal
use Rattle.bench_works.proofs.verifications.judge_repeatedly.Goals.{then-is_valid, else-is_valid}

one_more : (b : Bool) (n v : ℕ) → b ≡ true → v ≡ yes_among n b → v + 1 ≡ yes_among (n + 1) b
one_more true n v is so_far = ap (λ k. k + 1) so_far
one_more false n v is so_far = cc

none_more : (b : Bool) (n v : ℕ) → b ≡ false → v ≡ yes_among n b → v ≡ yes_among (n + 1) b
none_more true n v is so_far = cc
none_more false n v is so_far = so_far

pub loop-done-preserved : goal.loop-done-preserved
loop-done-preserved c =
    let verdict = c.in_ok-verdict.verdict in
    let same = ap is_valid (sym (c.in_ok-judge.ensures.only verdict c.in_ok-verdict.ensures.verdict)) ∙ sym c.is_valid-in-loop-done.ensures in
    elim c.if-is_valid.branch [
      | then-is_valid w ↦ w.valid-is ∙ one_more (is_valid verdict) _ _ (same ∙ w.if-is_valid.true) c.loop-done.invariant
      | else-is_valid w ↦ w.valid-is ∙ none_more (is_valid verdict) _ _ (same ∙ w.if-is_valid.false) c.loop-done.invariant
    ]

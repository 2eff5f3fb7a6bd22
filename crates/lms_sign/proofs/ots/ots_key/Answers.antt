use Rattle.std.proofs.Common.{◌≡◌, ℕ, List, ◌-◌, ◌^◌, ap, ◌∙◌, arith}
use Rattle.lms_verify.specs.declared.ots.OtsSet.{OtsSet}
use Rattle.lms_verify.specs.Ots.{hash_of, joined}
use Rattle.lms_sign.specs.Ots.{value_after, ots_key}
use Rattle.lms_sign.proofs.ots.ots_key.Goals as goal

pub returns-clause-value : goal.returns-clause-value
unfolding hash_of ots_key
returns-clause-value c =
    let tree = c.args.tree.now in
    let leaf = c.args.leaf in
    let all : c.loop-i.i ≡ c.set_of-set.result.digits = omega arith in
    let ends : OtsSet → ℕ → List ℕ = (λ set n. joined (λ i. value_after tree leaf i (2 ^ set.width - 1)) n) in
    c.finish.ensures.value _ _ c.loop-i.invariant
    ∙ ap (λ n. hash_of tree.identifier leaf 0x8080 (ends c.set_of-set.result n)) all
    ∙ ap (λ set. hash_of tree.identifier leaf 0x8080 (ends set set.digits)) c.set_of-set.ensures.value

pub returns-clause-size : goal.returns-clause-size
returns-clause-size c = c.finish.ensures.size _ _ c.loop-i.invariant

use Rattle.std.proofs.Common.{◌≡◌, ℕ, List, ◌++◌, ap, ◌∙◌, arith}
use Rattle.lms_verify.specs.declared.ots.OtsSet.{OtsSet}
use Rattle.lms_verify.specs.Ots.{joined, coef, with_checksum}
use Rattle.lms_sign.specs.Ots.{value_after, signed_values}
use Rattle.lms_sign.proofs.ots.write_values.Goals as goal

pub returns : goal.returns
unfolding signed_values
returns c =
    let tree = c.args.tree.now in
    let leaf = c.args.leaf in
    let all : c.loop-i.i ≡ c.set_of-set.result.digits = omega arith in
    let values : OtsSet → List ℕ → ℕ → List ℕ = (λ set digits n. joined (λ i. value_after tree leaf i (coef digits i set.width)) n) in
    c.loop-i.invariant
    ∙ ap (λ n. c.args.out.now.items ++ values c.set_of-set.result c.with_checksum-digits.result n) all
    ∙ ap (λ digits. c.args.out.now.items ++ values c.set_of-set.result digits c.set_of-set.result.digits) c.with_checksum-digits.ensures
    ∙ ap (λ set. c.args.out.now.items ++ values set (with_checksum set c.args.message_hash.now) set.digits) c.set_of-set.ensures.value

use Rattle.std.proofs.Common.{◌≡◌, ◌-◌, ◌*◌, ◌/◌, ◌^◌, ap, ◌∙◌, arith}
use Rattle.lms_verify.specs.Ots.{total, coef, checksum}
use Rattle.lms_verify.proofs.Sets.{whole}
use Rattle.lms_verify.proofs.ots.checksum.Goals as goal

pub returns : goal.returns
unfolding checksum
returns c =
    let set = c.args.set.now in
    let all : c.loop-i.i ≡ 256 / set.width = omega arith in
    whole set c.requires.set c.loop-i.i c.loop-i.lacking (omega arith) c.loop-i.invariant.1
    ∙ ap (λ sum. sum * 2 ^ set.shift) (c.loop-i.invariant.0 ∙ ap (total (λ i. 2 ^ set.width - 1 - coef c.args.bytes.now i set.width)) all)

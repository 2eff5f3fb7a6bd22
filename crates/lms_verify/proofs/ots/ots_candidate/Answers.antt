use Rattle.std.proofs.Common.{◌≡◌, ap, ◌∙◌, arith}
use Rattle.lms_verify.specs.Ots.{hash_of, joined, end_of, with_checksum, ots_candidate}
use Rattle.lms_verify.proofs.ots.ots_candidate.Goals as goal

pub returns : goal.returns
unfolding hash_of ots_candidate
returns c =
    let set = c.args.set.now in
    let identifier = c.args.identifier.now in
    let all : c.loop-i.i ≡ set.digits = omega arith in
    let end = end_of set identifier c.args.leaf (with_checksum set c.args.message_hash.now) c.args.values.now in
    record { value = c.finish.ensures.value _ _ c.loop-i.invariant ∙ ap (λ n. hash_of identifier c.args.leaf 0x8080 (joined end n)) all }

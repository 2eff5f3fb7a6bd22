use Rattle.std.proofs.Common.{◌≡◌, ◌++◌, ap, ◌∙◌}
use Rattle.std.proofs.lemmas.Result.{on_ok_weaker}
use Rattle.lms_verify.specs.Ots.{hash_of, message_hash}
use Rattle.lms_sign.specs.Ots.{randomizer_of, signed_values, ots_signature}
use Rattle.lms_sign.proofs.Fields.{three_parts}
use Rattle.lms_sign.proofs.ots.write_ots_signature.Goals as goal

pub returns : goal.returns
unfolding ots_signature message_hash
returns c =
    let tree = c.args.tree.now in
    let leaf = c.args.leaf in
    let message = c.args.message.now in
    let first : c.bytes.result.now ≡ randomizer_of tree leaf = c.bytes.ensures.bytes ∙ c.randomizer-randomizer.ensures.value in
    let randomizer : c.bytes-2.result.now ≡ randomizer_of tree leaf = c.bytes-2.ensures.bytes ∙ c.randomizer-randomizer.ensures.value in
    let hash : c.bytes-3.result.now ≡ message_hash tree.identifier leaf (randomizer_of tree leaf) message =
    c.bytes-3.ensures.bytes ∙ c.hash-message_hash.ensures.value
    ∙ ap (λ l. hash_of tree.identifier leaf 0x8181 (l ++ message)) first in
    on_ok_weaker c.write_values.result
    (λ written. three_parts c.args.out.now.items _ _ _ _ _ _ c.in_ok-extend_from_slice.ensures.items c.in_ok-extend_from_slice-2.ensures.items written
    ∙ (λ k. c.args.out.now.items ++ (c.to_be_bytes.ensures k ++ randomizer k ++ signed_values tree leaf (hash k))))
    c.write_values.ensures

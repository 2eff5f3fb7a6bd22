use Rattle.std.proofs.Common.{◌≡◌, ◌++◌, ap, ◌∙◌}
use Rattle.hash_kit.specs.HssKey.{ots_type_of, identifier_of}
use Rattle.lms_verify.specs.Ots.{set_of, hash_of, message_hash, ots_candidate}
use Rattle.lms_verify.specs.Lms.{leaf_in, randomizer_in, values_in, path_in, root_candidate, root_by}
use Rattle.lms_verify.proofs.lms.root_by.Goals as goal

pub returns : goal.returns
unfolding root_by message_hash
returns c =
    let key = c.args.key.now in
    let signature = c.args.signature.now in
    let set = c.set-set.ensures.value in
    let leaf = c.u32_at-leaf.ensures in
    let hash : c.bytes.result.now ≡ message_hash (identifier_of key) (leaf_in signature) (randomizer_in signature) c.args.message.now =
    c.bytes.ensures.bytes ∙ c.hash-message_hash.ensures.value
    ∙ (λ i. hash_of (c.identifier.ensures.value i) (leaf i) 0x8181 (c.parts.ensures.randomizer i ++ c.args.message.now)) in
    let values : c.parts.result.1.now ≡ values_in (set_of (ots_type_of key)) signature =
    c.parts.ensures.values ∙ ap (λ s. values_in s signature) set in
    let path : c.parts.result.2.now ≡ path_in (set_of (ots_type_of key)) signature =
    c.parts.ensures.path ∙ ap (λ s. path_in s signature) set in
    let ots_key = c.bytes-2.ensures.bytes ∙ c.ots_candidate-ots_key.ensures.value
    ∙ (λ i. ots_candidate (set i) (c.identifier-2.ensures.value i) (leaf i) (hash i) (values i)) in
    c.root_candidate.ensures
    ∙ (λ i. root_candidate (c.identifier-3.ensures.value i) (c.height.ensures.value i) (leaf i) (ots_key i) (path i))

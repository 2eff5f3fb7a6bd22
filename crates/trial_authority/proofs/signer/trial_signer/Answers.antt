use Rattle.std.proofs.Common.{◌∷◌, take, ap, ◌∙◌}
use Rattle.hash_kit.specs.Digest.{digest_of}
use Rattle.hash_kit.specs.declared.algorithm.HashAlg.TheVariants.{Sha256}
use Rattle.trial_authority.proofs.SignerLemmas.{valid}
use Rattle.trial_authority.proofs.signer.trial_signer.Goals as goal

pub returns-clause-valid : goal.returns-clause-valid
returns-clause-valid c =
    let hashed = c.digest-cert.ensures.value ∙ ap (digest_of Sha256) (c.bytes.ensures.bytes ∙ c.in_ok-key.ensures) in
    valid c.args.seed.now c.args.name.now _ _ _ _ _ _ _ c.args.end c.requires (c.from_vec.ensures ∙ c.in_ok-from_slice.ensures.items)
    (c.in_ok-sid.ensures ∙ ap (λ m. 128 ∷ 20 ∷ take 20 m) hashed) c.in_ok-key.ensures hashed
    c.as_slice.ensures c.bytes-2.ensures.bytes c.bytes-3.ensures.bytes c.are_octets-3.ensures c.are_octets.ensures c.are_octets-2.ensures

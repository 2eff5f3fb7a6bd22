-- The key of a trial authority, and how tokens and policies name it.
use Rattle.std.specs.Prelude.{◌≡◌, ℕ, List, ◌∷◌, take, Some}
use Rattle.hash_kit.specs.declared.algorithm.HashAlg.TheVariants.{Sha256}
use Rattle.hash_kit.specs.Digest.{digest_of}
use Rattle.lms_sign.specs.declared.secret.HssSecret.{HssSecret}
use Rattle.lms_sign.specs.Hss.{hss_public}
use Rattle.algorithm_policy.specs.declared.signer.Signer.{Signer}
use Rattle.algorithm_policy.specs.Content.{Content, signer_of}

-- two levels of trees of height 5, with digits of 4 bits, from a seed (RFC 8554, 4.1 and 5.1)
abbrev pub trial_key : List ℕ → HssSecret
trial_key seed = record { seed = seed; levels = 2; lms_type = 5; ots_type = 3 }

-- its public key, and how many messages it signs
abbrev pub public_of : List ℕ → List ℕ
public_of seed = hss_public (trial_key seed)

-- how many messages the key signs
abbrev pub leaves : ℕ
leaves = 1024

-- There is no certificate: the SHA-256 of the public key stands for that of one.
abbrev pub certificate_of : List ℕ → List ℕ
certificate_of seed = digest_of Sha256 (public_of seed)

-- subjectKeyIdentifier [0], the first 20 bytes of that hash (RFC 5652, 5.3)
abbrev pub sid_of : List ℕ → List ℕ
sid_of seed = 0x80 ∷ 0x14 ∷ take 20 (certificate_of seed)

-- The policy's authority of this identifier has this key and this certificate.
pub record Trusts (policy : Content) (seed : List ℕ) : Type 0 where
  pub signer : Signer
  pub found : signer_of policy (sid_of seed) ≡ Some signer
  pub key : signer.key ≡ public_of seed
  pub certificate : signer.cert ≡ certificate_of seed

-- Each token is sound under a policy, or a check of it is the first that fails.
use Rattle.std.proofs.Common.{◌≡◌, ℕ, ◌≤◌, Bool, true, false, List, length, Option, Some, None, refl, ap, ◌∙◌, ◌⊎◌, inl, inr}
use Rattle.std.specs.Str.{bytes_eq}
use Rattle.std.proofs.lemmas.Bool.{cases_lt}
use Rattle.std.proofs.lemmas.Slice.Eq.{bytes_eq-Decides}
use Rattle.civil_moment.specs.declared.moment.Moment.{Moment}
use Rattle.der_values.proofs.Octets.{IsBytes}
use Rattle.hash_kit.specs.declared.algorithm.HashAlg.{HashAlg}
use Rattle.hash_kit.specs.declared.algorithm.HashAlg.TheVariants.{Sha256}
use Rattle.hash_kit.specs.Digest.{digest_of}
use Rattle.lms_verify.specs.Hss.{hss_verifies}
use Rattle.tst_info.specs.declared.fault.TstFault.{TstFault}
use Rattle.tst_info.specs.Info.{Tst, tst_first_fault}
use Rattle.tst_info.proofs.InfoLemmas.{tst_without_fault}
use Rattle.cms_signed.specs.declared.fault.CmsFault.{CmsFault}
use Rattle.cms_signed.specs.Names.{known_hash}
use Rattle.cms_signed.specs.Signed.{Parts, first_fault, as_set}
use Rattle.cms_signed.proofs.Handed.{faultless_is_read, content_is_bytes}
use Rattle.algorithm_policy.specs.declared.signer.Signer.{Signer}
use Rattle.algorithm_policy.specs.Content.{Content, signer_of}
use Rattle.token_check.specs.declared.fault.Check.{Check}
use Rattle.token_check.specs.declared.fault.Check.TheVariants as checks
use Rattle.token_check.specs.Sound.{Stamp, stamp_of, longest, IsSigned, IsStamped, IsTrusted, Sound}
use Rattle.token_check.specs.Fault.{is_certificate, signer_fault, hash_fault, trust_fault, Fails}
use Rattle.token_check.proofs.Trust.{three, fails}

certificate_is : (o : Option (List ℕ)) (cert : List ℕ) → is_certificate o cert ≡ true → o ≡ Some cert
certificate_is None cert e = absurd cc
certificate_is (Some hash) cert e = ap Some ((bytes_eq-Decides hash cert).0 e)

abbrev SoundOrFails : Content → List ℕ → Type 0
SoundOrFails policy bytes = ((stamp : Stamp) × Sound policy bytes stamp) ⊎ ((check : Check) × Fails policy bytes check)

-- ---- a time-stamp that could be read

module _ (policy : Content) (signed : Parts) (info : Tst Moment) where
  abbrev Decided : Type 0
  Decided = ((alg : HashAlg) × IsTrusted policy signed info alg) ⊎ ((check : Check) × (trust_fault policy signed info ≡ Some check))

  by_authority : (alg : HashAlg) (signer : Signer) → known_hash info.hash ≡ Some alg → signer_of policy signed.sid ≡ Some signer → (a b c : Bool)
      → is_certificate signed.cert_hash signer.cert ≡ a → bytes_eq signed.message_digest (digest_of Sha256 signed.content) ≡ b → hss_verifies signer.key (as_set signed.attrs) signed.signature ≡ c → Decided
  by_authority alg signer p q false b c x y z = inr (checks.CertHash, (λ i. hash_fault (p i) (signer_fault (q i) signed)) ∙ (λ i. three (x i) (y i) (z i)))
  by_authority alg signer p q true false c x y z = inr (checks.MessageDigest, (λ i. hash_fault (p i) (signer_fault (q i) signed)) ∙ (λ i. three (x i) (y i) (z i)))
  by_authority alg signer p q true true false x y z = inr (checks.BadSignature, (λ i. hash_fault (p i) (signer_fault (q i) signed)) ∙ (λ i. three (x i) (y i) (z i)))
  by_authority alg signer p q true true true x y z = inl (
    alg,
    record {
      hash = p;
      signer = signer;
      found = q;
      by = record {
        certificate = certificate_is signed.cert_hash signer.cert x;
        digest = (bytes_eq-Decides signed.message_digest (digest_of Sha256 signed.content)).0 y;
        signature = z;
      };
    },
  )

  by_hash : (hash : Option HashAlg) (signer : Option Signer) → known_hash info.hash ≡ hash → signer_of policy signed.sid ≡ signer → Decided
  by_hash None signer p q = inr (checks.HashUnknown, ap (λ (h : Option HashAlg). hash_fault h (signer_fault (signer_of policy signed.sid) signed)) p)
  by_hash (Some alg) None p q = inr (checks.UnknownSigner, (λ i. hash_fault (p i) (signer_fault (q i) signed)))
  by_hash (Some alg) (Some signer) p q =
      by_authority alg signer p q (is_certificate signed.cert_hash signer.cert) (bytes_eq signed.message_digest (digest_of Sha256 signed.content)) (hss_verifies signer.key (as_set signed.attrs) signed.signature) refl refl refl

  stamp_decided : (bytes : List ℕ) → IsStamped bytes signed info → SoundOrFails policy bytes
  stamp_decided bytes read = by_trust (by_hash (known_hash info.hash) (signer_of policy signed.sid) refl refl) where
    by_trust : Decided → SoundOrFails policy bytes
    by_trust (inl (alg, trusted)) = inl (stamp_of alg info signed, record { signed = signed; info = info; read = read; trusted = trusted; says = refl })
    by_trust (inr (check, is)) = inr (check, fails policy bytes signed info read check is)

-- ---- any bytes: too many, no signed time-stamp, one over no TSTInfo, or one that could be read

module _ (policy : Content) (bytes : List ℕ) (fits : IsBytes bytes) where
  by_info : (signed : Parts) → IsSigned bytes signed → (fault : Option TstFault) → tst_first_fault signed.content ≡ fault → SoundOrFails policy bytes
  by_info signed is (Some fault) e = inr (checks.Tst fault, record { signed = signed; is_signed = is; content = e })
  by_info signed is None e =
      let info = tst_without_fault signed.content (content_is_bytes bytes signed fits is.reads) e in
      stamp_decided policy signed info.0 bytes (record { is_signed = is; content = info.1 })

  by_signed : length bytes ≤ longest → (fault : Option CmsFault) → first_fault bytes ≡ fault → SoundOrFails policy bytes
  by_signed short (Some fault) e = inr (checks.Cms fault, (short, e))
  by_signed short None e =
      let signed = faultless_is_read bytes fits e in
      by_info signed.0 (record { short = short; reads = signed.1 }) (tst_first_fault signed.0.content) refl

  pub token_decided : SoundOrFails policy bytes
  token_decided = elim (cases_lt longest (length bytes)) [ inl long ↦ inr (checks.TooLong, long) | inr short ↦ by_signed short (first_fault bytes) refl ]

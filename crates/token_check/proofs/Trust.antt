-- What is trusted under a policy has no fault, and a fault of trust is one of the later checks.
use Rattle.std.proofs.Common.{◌≡◌, ℕ, Bool, true, false, List, Option, Some, None, refl, ap, subst, ◌∙◌}
use Rattle.std.specs.Prelude.{⊤, not, if◌then◌else◌}
use Rattle.std.specs.Str.{bytes_eq}
use Rattle.std.proofs.lemmas.Slice.Eq.{bytes_eq-Decides}
use Rattle.civil_moment.specs.declared.moment.Moment.{Moment}
use Rattle.hash_kit.specs.declared.algorithm.HashAlg.{HashAlg}
use Rattle.hash_kit.specs.declared.algorithm.HashAlg.TheVariants.{Sha256}
use Rattle.hash_kit.specs.Digest.{digest_of}
use Rattle.lms_verify.specs.Hss.{hss_verifies}
use Rattle.tst_info.specs.Info.{Tst}
use Rattle.cms_signed.specs.Signed.{Parts, as_set}
use Rattle.algorithm_policy.specs.declared.signer.Signer.{Signer}
use Rattle.algorithm_policy.specs.Content.{Content, signer_of}
use Rattle.token_check.specs.declared.fault.Check.{Check}
use Rattle.token_check.specs.declared.fault.Check.TheVariants as checks
use Rattle.token_check.specs.declared.fault.TokenFault.{TokenFault}
use Rattle.token_check.specs.declared.fault.TokenFault.TheVariants as faults
use Rattle.token_check.specs.Sound.{IsStamped, IsSignedBy, IsTrusted}
use Rattle.cms_signed.specs.Names.{known_hash}
use Rattle.token_check.specs.Fault.{is_certificate, authority_fault, signer_fault, hash_fault, trust_fault, Fails, Blames}
use Rattle.token_check.specs.Inside.{IsTrustFault}

-- the three tests of an authority
abbrev pub three : Bool → Bool → Bool → Option Check
three certificate digest signature =
    if not certificate then Some checks.CertHash
    else (if not digest then Some checks.MessageDigest
    else (if not signature then Some checks.BadSignature
    else None))

signed_passes : (signer : Signer) (signed : Parts) → IsSignedBy signer signed → authority_fault signer signed ≡ None
signed_passes signer signed h = λ i. three (certificate i) (digest i) (h.signature i) where
  certificate : is_certificate signed.cert_hash signer.cert ≡ true
  certificate = ap (λ hash. is_certificate hash signer.cert) h.certificate ∙ (bytes_eq-Decides signer.cert signer.cert).1 refl

  digest : bytes_eq signed.message_digest (digest_of Sha256 signed.content) ≡ true
  digest = (bytes_eq-Decides signed.message_digest (digest_of Sha256 signed.content)).1 h.digest

pub trusted_passes : (policy : Content) (signed : Parts) (info : Tst Moment) (alg : HashAlg) → IsTrusted policy signed info alg → trust_fault policy signed info ≡ None
trusted_passes policy signed info alg h =
    ap (λ hash. hash_fault hash (signer_fault (signer_of policy signed.sid) signed)) h.hash
    ∙ ap (λ signer. signer_fault signer signed) h.found
    ∙ signed_passes h.signer signed h.by

-- ---- a fault of trust is none of the first three checks

abbrev IsLater : Option Check → Type 0
IsLater None = ⊤
IsLater (Some checks.TooLong) = ⊥
IsLater (Some (checks.Cms e)) = ⊥
IsLater (Some (checks.Tst e)) = ⊥
IsLater (Some c) = ⊤

three_later : (a b c : Bool) → IsLater (three a b c)
three_later false b c = tt
three_later true false c = tt
three_later true true false = tt
three_later true true true = tt

later : (hash : Option HashAlg) (signer : Option Signer) (signed : Parts) → IsLater (hash_fault hash (signer_fault signer signed))
later None signer signed = tt
later (Some alg) None signed = tt
later (Some alg) (Some signer) signed = three_later (is_certificate signed.cert_hash signer.cert) (bytes_eq signed.message_digest (digest_of Sha256 signed.content)) (hss_verifies signer.key (as_set signed.attrs) signed.signature)

module _ (policy : Content) (bytes : List ℕ) (signed : Parts) (info : Tst Moment) (read : IsStamped bytes signed info) where
  is_later : (c : Check) → IsTrustFault policy signed info c → IsLater (Some c)
  is_later c h = subst IsLater h (later (known_hash info.hash) (signer_of policy signed.sid) signed)

  pub fails : (c : Check) → IsTrustFault policy signed info c → Fails policy bytes c
  fails checks.TooLong h = absurd (is_later checks.TooLong h)
  fails (checks.Cms e) h = absurd (is_later (checks.Cms e) h)
  fails (checks.Tst e) h = absurd (is_later (checks.Tst e) h)
  fails checks.HashUnknown h = record { signed = signed; info = info; read = read; fails = h }
  fails checks.UnknownSigner h = record { signed = signed; info = info; read = read; fails = h }
  fails checks.CertHash h = record { signed = signed; info = info; read = read; fails = h }
  fails checks.MessageDigest h = record { signed = signed; info = info; read = read; fails = h }
  fails checks.BadSignature h = record { signed = signed; info = info; read = read; fails = h }

  pub trust_blames : (f : TokenFault) → Blames (IsTrustFault policy signed info) f → Blames (Fails policy bytes) f
  trust_blames (faults.Check c) h = fails c h
  trust_blames faults.Memory h = tt

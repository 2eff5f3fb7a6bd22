-- The first condition that fails of a token, in the order of the variants of Check.
use Rattle.std.specs.Prelude.{◌≡◌, ◌≢◌, ⊤, ℕ, ◌<◌, ◌≤◌, Bool, false, not, List, length, Option, Some, None, if◌then◌else◌}
use Rattle.std.specs.Str.{bytes_eq}
use Rattle.civil_moment.specs.declared.moment.Moment.{Moment}
use Rattle.civil_moment.specs.declared.fault.TimeFault.TheVariants as times
use Rattle.hash_kit.specs.declared.algorithm.HashAlg.{HashAlg}
use Rattle.hash_kit.specs.declared.algorithm.HashAlg.TheVariants.{Sha256}
use Rattle.hash_kit.specs.Digest.{digest_of}
use Rattle.lms_verify.specs.Hss.{hss_verifies}
use Rattle.tst_info.specs.declared.fault.TstFault.{TstFault}
use Rattle.tst_info.specs.declared.fault.TstKind.TheVariants as kinds
use Rattle.tst_info.specs.Info.{Tst, tst_first_fault}
use Rattle.cms_signed.specs.Names.{known_hash}
use Rattle.cms_signed.specs.Signed.{Parts, first_fault, as_set}
use Rattle.algorithm_policy.specs.declared.signer.Signer.{Signer}
use Rattle.algorithm_policy.specs.Content.{Content, signer_of}
use Rattle.token_check.specs.declared.fault.Check.{Check}
use Rattle.token_check.specs.declared.fault.Check.TheVariants as checks
use Rattle.token_check.specs.declared.fault.TokenFault.{TokenFault}
use Rattle.token_check.specs.declared.fault.TokenFault.TheVariants as faults
use Rattle.token_check.specs.Sound.{longest, IsSigned, IsStamped}

-- the certificate that is named is the authority's
abbrev pub is_certificate : Option (List ℕ) → List ℕ → Bool
is_certificate None cert = false
is_certificate (Some hash) cert = bytes_eq hash cert

-- what first keeps the parts from being signed by this authority
abbrev pub authority_fault : Signer → Parts → Option Check
authority_fault signer signed =
    if not (is_certificate signed.cert_hash signer.cert) then Some checks.CertHash
    else (if not (bytes_eq signed.message_digest (digest_of Sha256 signed.content)) then Some checks.MessageDigest
    else (if not (hss_verifies signer.key (as_set signed.attrs) signed.signature) then Some checks.BadSignature
    else None))

-- the same by the authority of the signer's identifier, where there is one
abbrev pub signer_fault : Option Signer → Parts → Option Check
signer_fault None signed = Some checks.UnknownSigner
signer_fault (Some signer) signed = authority_fault signer signed

-- the hash, and then the signer
abbrev pub hash_fault : Option HashAlg → Option Check → Option Check
hash_fault None later = Some checks.HashUnknown
hash_fault (Some alg) later = later

-- what first keeps a time-stamp that could be read from being trusted under the policy
abbrev pub trust_fault : Content → Parts → Tst Moment → Option Check
trust_fault policy signed info = hash_fault (known_hash info.hash) (signer_fault (signer_of policy signed.sid) signed)

-- The bytes are a signed time-stamp whose content is no TSTInfo, by this fault.
pub record HasContentFault (bytes : List ℕ) (fault : TstFault) : Type 0 where
  pub signed : Parts
  pub is_signed : IsSigned bytes signed
  pub content : tst_first_fault signed.content ≡ Some fault

-- The bytes are a time-stamp that is not trusted under the policy, by this check.
pub record HasTrustFault (policy : Content) (bytes : List ℕ) (failed : Check) : Type 0 where
  pub signed : Parts
  pub info : Tst Moment
  pub read : IsStamped bytes signed info
  pub fails : trust_fault policy signed info ≡ Some failed

-- The check is the first that fails: all before it pass.
abbrev pub Fails : Content → List ℕ → Check → Type 0
Fails policy bytes checks.TooLong = longest < length bytes
Fails policy bytes (checks.Cms fault) = (length bytes ≤ longest) × (first_fault bytes ≡ Some fault)
Fails policy bytes (checks.Tst fault) = HasContentFault bytes fault
Fails policy bytes checks.HashUnknown = HasTrustFault policy bytes checks.HashUnknown
Fails policy bytes checks.UnknownSigner = HasTrustFault policy bytes checks.UnknownSigner
Fails policy bytes checks.CertHash = HasTrustFault policy bytes checks.CertHash
Fails policy bytes checks.MessageDigest = HasTrustFault policy bytes checks.MessageDigest
Fails policy bytes checks.BadSignature = HasTrustFault policy bytes checks.BadSignature

-- A check of a token's time is never want of memory.
abbrev pub NoMemory : Check → Type 0
NoMemory (checks.Tst fault) = fault.kind ≢ kinds.Time times.Memory
NoMemory c = ⊤

-- The check that is blamed is so; want of memory blames none.
abbrev pub Blames : (Check → Type 0) → TokenFault → Type 0
Blames P (faults.Check c) = P c
Blames P faults.Memory = ⊤

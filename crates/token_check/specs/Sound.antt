-- When a time-stamp token is sound under a policy (RFC 3161, 2.2 and 2.4.2; RFC 5652, 5.4 and 5.6; RFC 5816, 2.2;
-- RFC 8708, 5).
use Rattle.std.specs.Prelude.{◌≡◌, ℕ, ◌≤◌, List, length, Option, Some}
use Rattle.std.specs.Borrow.{Bor}
use Rattle.std.specs.Option.{option_map}
use Rattle.civil_moment.specs.declared.moment.Moment.{Moment}
use Rattle.hash_kit.specs.declared.algorithm.HashAlg.{HashAlg}
use Rattle.hash_kit.specs.declared.algorithm.HashAlg.TheVariants.{Sha256}
use Rattle.hash_kit.specs.Digest.{digest_of}
use Rattle.lms_verify.specs.Hss.{Verifies}
use Rattle.tst_info.specs.Info.{Tst, ReadsTst}
use Rattle.cms_signed.specs.Names.{known_hash}
use Rattle.cms_signed.specs.Signed.{Parts, ReadsSigned, as_set}
use Rattle.algorithm_policy.specs.declared.signer.Signer.{Signer}
use Rattle.algorithm_policy.specs.Content.{Content, signer_of}
use Rattle.token_check.specs.declared.token.CheckedStamp.{CheckedStamp}

-- What a token says: the hash value of this algorithm was there at this time, by the request of this nonce where there
-- was one, and the signer of this identifier says so.
pub record Stamp : Type 0 where
  pub alg : HashAlg
  pub imprint : List ℕ
  pub time : Moment
  pub nonce : Option (List ℕ)
  pub sid : List ℕ

-- the bytes, where there are any
abbrev pub bytes_seen : Option (Bor (List ℕ)) → Option (List ℕ)
bytes_seen bytes = option_map (λ b. b.now) bytes

-- what a CheckedStamp says
abbrev pub stamp_seen : CheckedStamp → Stamp
stamp_seen s = record { alg = s.alg; imprint = s.imprint.now; time = s.time; nonce = bytes_seen s.nonce; sid = s.sid.now }

-- what a time-stamp of this hash algorithm, these parts and this signer says
abbrev pub stamp_of : HashAlg → Tst Moment → Parts → Stamp
stamp_of alg info signed = record { alg = alg; imprint = info.imprint; time = info.time; nonce = info.nonce; sid = signed.sid }

-- The most bytes of a token.
abbrev pub longest : ℕ
longest = 65_536

-- The bytes are short enough, and a signed time-stamp with these parts.
pub record IsSigned (bytes : List ℕ) (signed : Parts) : Type 0 where
  pub short : length bytes ≤ longest
  pub reads : ReadsSigned bytes signed

-- The content that is signed is besides a TSTInfo with these parts.
pub record IsStamped (bytes : List ℕ) (signed : Parts) (info : Tst Moment) : Type 0 where
  pub is_signed : IsSigned bytes signed
  pub content : ReadsTst signed.content info

-- The signer's authority is this one: the certificate is the authority's, by its SHA-256 (RFC 5816, 2.2), the
-- message-digest is the SHA-256 of the content's octets without their header (RFC 5652, 5.4), and the signature of the
-- signed attributes, as a SET OF, verifies under the authority's key (RFC 5652, 5.6; RFC 8708, 5).
pub record IsSignedBy (signer : Signer) (signed : Parts) : Type 0 where
  pub certificate : signed.cert_hash ≡ Some signer.cert
  pub digest : signed.message_digest ≡ digest_of Sha256 signed.content
  pub signature : Verifies signer.key (as_set signed.attrs) signed.signature

-- The hash of the imprint is known, and the policy's authority of the signer's whole identifier has signed.
pub record IsTrusted (policy : Content) (signed : Parts) (info : Tst Moment) (alg : HashAlg) : Type 0 where
  pub hash : known_hash info.hash ≡ Some alg
  pub signer : Signer
  pub found : signer_of policy signed.sid ≡ Some signer
  pub by : IsSignedBy signer signed

-- The token is sound under the policy, and this is what it says.
pub record Sound (policy : Content) (bytes : List ℕ) (stamp : Stamp) : Type 0 where
  pub signed : Parts
  pub info : Tst Moment
  pub read : IsStamped bytes signed info
  pub trusted : IsTrusted policy signed info stamp.alg
  pub says : stamp_of stamp.alg info signed ≡ stamp

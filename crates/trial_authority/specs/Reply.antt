-- What a trial authority answers: a token that it signs, or its rejection (RFC 3161, 2.4.2; RFC 5652, 5).
use Rattle.std.specs.Prelude.{◌≡◌, ℕ, ◌+◌, ◌/◌, ◌%◌, ◌≤◌, nat_lt, List, [], ◌∷◌, false, length, Some, None, if◌then◌else◌}
use Rattle.civil_moment.specs.declared.moment.Moment.{Moment}
use Rattle.hash_kit.specs.declared.algorithm.HashAlg.{HashAlg}
use Rattle.der_values.specs.Value.{value}
use Rattle.lms_sign.specs.Hss.{hss_signature}
use Rattle.tst_info.specs.Request.{ReadsRequest, ToStamp}
use Rattle.tst_info.specs.Info.{Tst, WritesTst}
use Rattle.tst_info.specs.Response.{response_text, ReadsResponse}
use Rattle.cms_signed.specs.Text.{ToSign, attributes_text, token_text}
use Rattle.algorithm_policy.specs.Content.{Content}
use Rattle.token_check.specs.Sound.{Sound}
use Rattle.cms_signed.specs.Names.{known_hash}
use Rattle.trial_authority.specs.Key.{trial_key, certificate_of, sid_of}

-- ---- what is asked

-- The bytes are a request that can be stamped: of at most 4,096 bytes, over a known hash.
pub record Asks (request : List ℕ) (asked : ToStamp) (alg : HashAlg) : Type 0 where
  pub short : length request ≤ 4096
  pub reads : ReadsRequest request asked
  pub known : known_hash asked.hash ≡ Some alg

-- The bytes are no such request.
abbrev pub AsksNothing : List ℕ → Type 0
AsksNothing request = (asked : ToStamp) (alg : HashAlg) → Asks request asked alg → ⊥

-- ---- what is granted

-- 2.999.1
abbrev pub trial_policy : List ℕ
trial_policy = 0x88 ∷ 0x37 ∷ 0x01 ∷ []

-- a positive INTEGER below 2 ^ 15 in the fewest octets, the first of them below 128 (X.690, 8.3)
abbrev pub positive : ℕ → List ℕ
positive n = if nat_lt n 128 then n ∷ [] else n / 256 ∷ n % 256 ∷ []

-- The hash is that of the request without parameters.
abbrev pub info_with : ToStamp → List ℕ → Moment → Tst Moment
info_with asked serial now = record {
  policy = trial_policy;
  hash = record { oid = asked.hash.oid; params = None };
  imprint = asked.imprint;
  serial = serial;
  time = now;
  ordering = false;
  nonce = asked.nonce;
}

-- The serial number is one more than the index that signs.
abbrev pub info_of : ToStamp → ℕ → Moment → Tst Moment
info_of asked index now = info_with asked (positive (index + 1)) now

-- what is to be signed: the info, the signer's identifier, the hash of its certificate
abbrev pub to_sign_of : List ℕ → List ℕ → ToSign
to_sign_of seed info = record { content = info; sid = sid_of seed; cert_hash = certificate_of seed }

-- the attributes as a SET OF are signed (RFC 5652, 5.4), by this index
abbrev pub signature_of : List ℕ → ℕ → List ℕ → List ℕ
signature_of seed index info = hss_signature (trial_key seed) index (value 0x31 (attributes_text (to_sign_of seed info)))

-- the token that is granted, by this index
abbrev pub token_of : List ℕ → ℕ → List ℕ → List ℕ
token_of seed index info = token_text (to_sign_of seed info) (signature_of seed index info)

-- The reply grants what was asked, at this moment, by this index of the key: status 0, and the token. These are all of its bytes.
pub record Grants (seed : List ℕ) (index : ℕ) (now : Moment) (asked : ToStamp) (reply : List ℕ) : Type 0 where
  pub info : List ℕ
  pub says : WritesTst info (info_of asked index now)
  pub is : reply ≡ response_text 0 (Some (token_of seed index info))

-- The reply is read as a token that is sound under the policy, and says what was asked and the moment.
pub record IsSoundReply (policy : Content) (seed : List ℕ) (now : Moment) (asked : ToStamp) (alg : HashAlg) (reply : List ℕ) : Type 0 where
  pub token : List ℕ
  pub read : ReadsResponse reply token
  pub sound : Sound policy token (record { alg = alg; imprint = asked.imprint; time = now; nonce = asked.nonce; sid = sid_of seed })

-- ---- what is rejected

-- a response of status 2, rejection, without a token
abbrev pub rejection : List ℕ
rejection = response_text 2 None

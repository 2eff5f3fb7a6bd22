-- TimeStampReq (RFC 3161, 2.4.1):
--   TimeStampReq ::= SEQUENCE {
--     version         INTEGER { v1(1) },
--     messageImprint  MessageImprint,
--     reqPolicy       TSAPolicyId           OPTIONAL, -- OBJECT IDENTIFIER
--     nonce           INTEGER               OPTIONAL,
--     certReq         BOOLEAN          DEFAULT FALSE,
--     extensions  [0] IMPLICIT Extensions   OPTIONAL }
use Rattle.std.specs.Prelude.{ℕ, ◌^◌, ◌<◌, List, [], ◌∷◌, ◌++◌, length, Option, IfSome}
use Rattle.std.specs.Option.{option_map}
use Rattle.der_values.specs.Value.{value}
use Rattle.der_values.specs.Typed.{IsInteger}
use Rattle.der_values.specs.Shape.{tagged, unchecked, is_integer, is_oid, checked, Shape, nothing_more, unread, required, optional}
use Rattle.der_values.specs.Reading.{first}
use Rattle.der_values.specs.Grammar.{Means, from_start}
use Rattle.der_values.specs.Algorithm.{Name, name_of, name_seen, IsName}
use Rattle.tst_info.specs.declared.fault.TstFault.{TstFault}
use Rattle.tst_info.specs.declared.request.StampRequest.{StampRequest}
use Rattle.tst_info.specs.Checks.{StampCheck, version_one, true_alone, stamp_checks}
use Rattle.tst_info.specs.Imprint.{imprint_shape, ImprintParts, imprint_text}
use Rattle.tst_info.specs.Spelling.{nonce_text}

-- ---- 1. the table; extensions are not looked into

abbrev pub wishes_shape : Shape StampCheck
wishes_shape =
    optional (tagged 0x06) is_oid unread (
    optional (tagged 0x02) is_integer unread (
    optional (tagged 0x01) (checked true_alone) unread (
    optional (tagged 0xa0) unchecked unread
    nothing_more)))

abbrev pub request_contents_shape : Shape StampCheck
request_contents_shape =
    required (tagged 0x02) (checked version_one) unread (
    required (tagged 0x30) unchecked imprint_shape
    wishes_shape)

abbrev pub request_shape : Shape StampCheck
request_shape = required (tagged 0x30) unchecked request_contents_shape nothing_more

-- ---- 2. the parts that are named

-- what is to be stamped
pub record ToStamp : Type 0 where
  pub hash : Name
  pub imprint : List ℕ
  pub nonce : Option (List ℕ)

-- what a reading gives of what stands behind the imprint
abbrev pub WishesParts : Type 0
WishesParts = Option (List ℕ) × (Option (List ℕ) × (Option (List ℕ) × (Option (List ℕ) × Unit {0})))

-- what a reading of a request gives
abbrev pub RequestParts : Type 0
RequestParts = List ℕ × (ImprintParts × WishesParts)

-- what these parts ask to be stamped
abbrev pub request_of : RequestParts → ToStamp
request_of p = record { hash = name_of p.1.0.0; imprint = p.1.0.1.0; nonce = p.1.1.1.0 }

-- what a StampRequest says
abbrev pub request_seen : StampRequest → ToStamp
request_seen q = record { hash = name_seen q.hash; imprint = q.imprint.now; nonce = option_map (λ b. b.now) q.nonce }

-- ---- 3. its grammar and its first fault

-- The bytes are a request with these parts, for any other parts.
abbrev pub ReadsRequest : List ℕ → ToStamp → Type 0
ReadsRequest bytes q = Means stamp_checks request_shape tt (λ p σ. request_of p.0) (from_start bytes) q

-- the first fault of the bytes as a request, or none
abbrev pub request_first_fault : List ℕ → Option TstFault
request_first_fault bytes = first stamp_checks request_shape tt (from_start bytes)

-- ---- 4. what is written: no reqPolicy, no certReq, no extensions

abbrev pub request_contents : ToStamp → List ℕ
request_contents q =
    value 0x02 (1 ∷ [])
    ++ value 0x30 (imprint_text q.hash q.imprint)
    ++ nonce_text q.nonce

abbrev pub request_text : ToStamp → List ℕ
request_text q = value 0x30 (request_contents q)

-- The parts have a spelling.
pub record HasRequestSpelling (q : ToStamp) : Type 0 where
  pub hash : IsName q.hash
  pub nonce : IfSome q.nonce IsInteger
  pub short : length (request_contents q) < 2 ^ 32

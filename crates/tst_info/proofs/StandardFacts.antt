-- The definitions at values from outside, so that a wrong rule in the specs does not check.
use Rattle.std.proofs.Common.{◌≡◌, ℕ, List, [], ◌∷◌, ◌++◌, false, Option, Some, None, Ok, Err, refl}
use Rattle.std.specs.Prelude.{codes}
use Rattle.der_values.specs.declared.fault.DerKind.{DerKind}
use Rattle.der_values.specs.declared.fault.DerKind.TheVariants.{NotMinimal, Trailing, BadValue}
use Rattle.der_values.specs.Value.{extra, length_octets, value}
use Rattle.der_values.specs.Next.{long_length_at, length_at, value_at, next_of, expect_of, finish_of}
use Rattle.der_values.specs.Typed.{integer_of, boolean_of, oid_of, version_of}
use Rattle.der_values.specs.Reading.{read, optional_of}
use Rattle.der_values.specs.Grammar.{from_start}
use Rattle.der_values.specs.Algorithm.{Name}
use Rattle.tst_info.specs.declared.fault.RespFault.{RespFault}
use Rattle.tst_info.specs.declared.fault.RespFault.TheVariants.{NotGranted, NoToken}
use Rattle.tst_info.specs.declared.fault.RespFault.TheVariants
use Rattle.tst_info.specs.declared.fault.TstFault.{TstFault}
use Rattle.tst_info.specs.declared.fault.TstKind.{TstKind}
use Rattle.tst_info.specs.declared.fault.TstKind.TheVariants.{Der, Version}
use Rattle.tst_info.specs.Checks.{true_of, stamp_checks}
use Rattle.tst_info.specs.Info.{Tst, tst_contents, tst_first_fault}
use Rattle.tst_info.specs.Request.{ToStamp, request_shape, request_of, request_text, request_first_fault}
use Rattle.tst_info.specs.Response.{granted_of, token_next_of, response_text, response_first_fault}

-- id-sha256 without parameters (RFC 5754, 2.2), and the digest of `abc` (FIPS 180-2, B.1)
abbrev sha256 : Name
sha256 = record { oid = 0x60 ∷ 0x86 ∷ 0x48 ∷ 0x01 ∷ 0x65 ∷ 0x03 ∷ 0x04 ∷ 0x02 ∷ 0x01 ∷ []; params = None }

abbrev abc : List ℕ
abc =
    0xba ∷ 0x78 ∷ 0x16 ∷ 0xbf ∷ 0x8f ∷ 0x01 ∷ 0xcf ∷ 0xea ∷ 0x41 ∷ 0x41 ∷ 0x40 ∷ 0xde ∷ 0x5d ∷ 0xae ∷ 0x22 ∷ 0x23
    ∷ 0xb0 ∷ 0x03 ∷ 0x61 ∷ 0xa3 ∷ 0x96 ∷ 0x17 ∷ 0x7a ∷ 0x9c ∷ 0xb4 ∷ 0x10 ∷ 0xff ∷ 0x61 ∷ 0xf2 ∷ 0x00 ∷ 0x15 ∷ 0xad ∷ []

-- the message imprint with its header, 49 bytes
abbrev imprint : List ℕ
imprint =
    0x30 ∷ 0x2f ∷ 0x30 ∷ 0x0b ∷ 0x06 ∷ 0x09 ∷ 0x60 ∷ 0x86 ∷ 0x48 ∷ 0x01 ∷ 0x65 ∷ 0x03 ∷ 0x04 ∷ 0x02 ∷ 0x01 ∷ 0x04 ∷ 0x20 ∷ abc

-- A request with nonce 3 has 57 bytes (RFC 3161, 2.4.1).
pub known_request : request_text (record { hash = sha256; imprint = abc; nonce = Some (3 ∷ []) })
    ≡ (0x30 ∷ 0x37 ∷ 0x02 ∷ 0x01 ∷ 0x01 ∷ []) ++ imprint ++ (0x02 ∷ 0x01 ∷ 0x03 ∷ [])
unfolding value length_octets
known_request = refl

-- A TSTInfo under policy 2.999.1 with serial number 1 and nonce 3 has 82 bytes, two of them its header (RFC 3161, 2.4.2).
abbrev stamped : Tst (List ℕ)
stamped = record {
  policy = 0x88 ∷ 0x37 ∷ 0x01 ∷ [];
  hash = sha256;
  imprint = abc;
  serial = 1 ∷ [];
  time = codes "20260105120000Z";
  ordering = false;
  nonce = Some (3 ∷ []);
}

pub known_tst : value 48 (tst_contents stamped)
    ≡ (0x30 ∷ 0x50 ∷ 0x02 ∷ 0x01 ∷ 0x01 ∷ 0x06 ∷ 0x03 ∷ 0x88 ∷ 0x37 ∷ 0x01 ∷ []) ++ imprint
    ++ (0x02 ∷ 0x01 ∷ 0x01 ∷ 0x18 ∷ 0x0f ∷ []) ++ codes "20260105120000Z" ++ (0x02 ∷ 0x01 ∷ 0x03 ∷ [])
unfolding value length_octets
known_tst = refl

-- A rejection with status 2, and a response that grants 30 00 (RFC 3161, 2.4.2; RFC 4210, 5.2.3).
pub known_responses : (response_text 2 None ≡ 0x30 ∷ 0x05 ∷ 0x30 ∷ 0x03 ∷ 0x02 ∷ 0x01 ∷ 0x02 ∷ [])
    × (response_text 0 (Some (0x30 ∷ 0x00 ∷ [])) ≡ 0x30 ∷ 0x07 ∷ 0x30 ∷ 0x03 ∷ 0x02 ∷ 0x01 ∷ 0x00 ∷ 0x30 ∷ 0x00 ∷ [])
unfolding value length_octets
known_responses = (refl, refl)

-- ---- readings

-- What OpenSSL asks for the digest of `abc`, with NULL parameters, a policy 1.2.3.4.1, a nonce of nine octets and certReq TRUE.
abbrev openssl_request : List ℕ
openssl_request =
    (0x30 ∷ 0x4a ∷ 0x02 ∷ 0x01 ∷ 0x01 ∷ 0x30 ∷ 0x31 ∷ 0x30 ∷ 0x0d ∷ 0x06 ∷ 0x09 ∷ []) ++ sha256.oid ++ (0x05 ∷ 0x00 ∷ 0x04 ∷ 0x20 ∷ []) ++ abc
    ++ (0x06 ∷ 0x04 ∷ 0x2a ∷ 0x03 ∷ 0x04 ∷ 0x01 ∷ 0x02 ∷ 0x09 ∷ 0x00 ∷ 0xd3 ∷ 0xca ∷ 0xb3 ∷ 0x6e ∷ 0xba ∷ 0x0b ∷ 0x52 ∷ 0x9c ∷ 0x01 ∷ 0x01 ∷ 0xff ∷ [])

-- what is named of a reading
abbrev asked : List ℕ → Option ToStamp
asked bytes = elim (read stamp_checks request_shape tt (from_start bytes)) [ Ok x ↦ Some (request_of x.0.0) | Err e ↦ None ]

pub known_reading : asked openssl_request ≡ Some (record {
  hash = record { oid = sha256.oid; params = Some (0x05 ∷ 0x00 ∷ []) };
  imprint = abc;
  nonce = Some (0x00 ∷ 0xd3 ∷ 0xca ∷ 0xb3 ∷ 0x6e ∷ 0xba ∷ 0x0b ∷ 0x52 ∷ 0x9c ∷ []);
})
unfolding read value_at length_at long_length_at extra value length_octets next_of expect_of optional_of finish_of integer_of oid_of boolean_of version_of true_of
known_reading = refl

-- ---- first faults

abbrev at : ℕ → TstKind → Option TstFault
at place kind = Some (record { place = place; kind = kind })

abbrev resp : ℕ → DerKind → Option RespFault
resp place kind = Some (TheVariants.Der (record { place = place; kind = kind }))

-- a version of 2, one in two octets, and a time that is none, at the place of its tag
pub known_tst_faults : (tst_first_fault (0x30 ∷ 0x03 ∷ 0x02 ∷ 0x01 ∷ 0x02 ∷ []) ≡ at 2 Version)
    × (tst_first_fault (0x30 ∷ 0x04 ∷ 0x02 ∷ 0x02 ∷ 0x00 ∷ 0x01 ∷ []) ≡ at 2 (Der NotMinimal))
    × (request_first_fault (0x30 ∷ 0x03 ∷ 0x02 ∷ 0x01 ∷ 0x02 ∷ []) ≡ at 2 Version)
unfolding read value_at length_at long_length_at extra value length_octets next_of expect_of optional_of finish_of integer_of version_of
known_tst_faults = (refl, refl, refl)

-- behind a granted status: nothing, a NULL, and more than a token; and a status of 2, 128, 00 01 and none
pub known_response_faults : (response_first_fault (0x30 ∷ 0x05 ∷ 0x30 ∷ 0x03 ∷ 0x02 ∷ 0x01 ∷ 0x01 ∷ []) ≡ Some NoToken)
    × (response_first_fault (0x30 ∷ 0x07 ∷ 0x30 ∷ 0x03 ∷ 0x02 ∷ 0x01 ∷ 0x00 ∷ 0x05 ∷ 0x00 ∷ []) ≡ resp 7 Trailing)
    × (response_first_fault (0x30 ∷ 0x09 ∷ 0x30 ∷ 0x03 ∷ 0x02 ∷ 0x01 ∷ 0x00 ∷ 0x30 ∷ 0x00 ∷ 0x30 ∷ 0x00 ∷ []) ≡ resp 9 Trailing)
    × (response_first_fault (0x30 ∷ 0x07 ∷ 0x30 ∷ 0x03 ∷ 0x02 ∷ 0x01 ∷ 0x02 ∷ 0x05 ∷ 0x00 ∷ []) ≡ Some (NotGranted 2))
    × (response_first_fault (0x30 ∷ 0x05 ∷ 0x30 ∷ 0x03 ∷ 0x02 ∷ 0x01 ∷ 0x80 ∷ []) ≡ resp 4 BadValue)
    × (response_first_fault (0x30 ∷ 0x06 ∷ 0x30 ∷ 0x04 ∷ 0x02 ∷ 0x02 ∷ 0x00 ∷ 0x01 ∷ []) ≡ resp 4 NotMinimal)
    × (response_first_fault (0x30 ∷ 0x04 ∷ 0x30 ∷ 0x02 ∷ 0x02 ∷ 0x00 ∷ []) ≡ resp 4 BadValue)
unfolding read value_at length_at long_length_at extra value length_octets next_of expect_of optional_of finish_of integer_of granted_of token_next_of
known_response_faults = (refl, refl, refl, refl, refl, refl, refl)

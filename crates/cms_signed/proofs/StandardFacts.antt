-- The definitions at values from outside, so that a wrong rule in the specs does not check.
use Rattle.std.proofs.Common.{◌≡◌, ℕ, List, [], ◌∷◌, length, true, false, Some, None, refl}
use Rattle.std.specs.Prelude.{replicate}
use Rattle.std.specs.Ordering.{is_gt}
use Rattle.der_values.specs.declared.fault.DerKind.TheVariants.{Truncated}
use Rattle.der_values.specs.Value.{extra, length_octets, value}
use Rattle.der_values.specs.Next.{next_of, expect_of, value_at, length_at, long_length_at}
use Rattle.der_values.specs.Typed.{oid_of}
use Rattle.der_values.specs.Order.{set_order_of}
use Rattle.der_values.specs.Reading.{read}
use Rattle.cms_signed.specs.declared.fault.AttrKind.TheVariants.{ContentType, MessageDigest, SigningCertificate}
use Rattle.cms_signed.specs.declared.fault.CmsFault.TheVariants as faults
use Rattle.cms_signed.specs.Names.{type_of, id_tst_info, is_sha256, is_hss_lms}
use Rattle.cms_signed.specs.Checks.{fits, kind_of, signed_data_at}
use Rattle.cms_signed.specs.AttributeList.{attribute_spelling, of_kind, one_of}
use Rattle.cms_signed.specs.Signed.{first_fault, as_set}
use Rattle.cms_signed.specs.Text.{attribute_text, certificate_text, version_of}

-- 30 1a 06 09 .. 31 0d 06 0b .. has 28 octets, with a digest of 32 octets 49, with a certificate's hash of 32 octets 57
pub known_attributes : (length (attribute_text ContentType (value 6 id_tst_info)) ≡ 28)
    × (length (attribute_text MessageDigest (value 4 (replicate 32 7))) ≡ 49)
    × (length (attribute_text SigningCertificate (certificate_text (replicate 32 7))) ≡ 57)
unfolding value length_octets extra
known_attributes = (refl, refl, refl)

-- a content-type in a list, 30 1a 06 09 .. 31 0d 06 0b .., beside an attribute of the type 1.2
pub known_list : (attribute_spelling (record { type = type_of ContentType; values = value 6 id_tst_info }) ≡ attribute_text ContentType (value 6 id_tst_info))
    × (of_kind ContentType (record { type = 42 ∷ []; values = [] } ∷ one_of ContentType (5 ∷ 0 ∷ [])) ≡ one_of ContentType (5 ∷ 0 ∷ []))
    × (of_kind MessageDigest (record { type = 42 ∷ []; values = [] } ∷ one_of ContentType (5 ∷ 0 ∷ [])) ≡ [])
known_list = (refl, refl, refl)

-- 30 2f .. goes before 30 2f 06 0b .., and behind 30 2e ..
pub known_order : (is_gt (set_order_of (attribute_text MessageDigest (value 4 (replicate 32 255))) (attribute_text SigningCertificate (certificate_text (replicate 24 0)))) ≡ false)
    × (is_gt (set_order_of (attribute_text MessageDigest (value 4 (replicate 32 0))) (attribute_text SigningCertificate (certificate_text (replicate 23 255)))) ≡ true)
unfolding set_order_of value length_octets extra
known_order = (refl, refl)

-- 1.2.840.113549.1.9.3, .4 and .5, which is signing-time (RFC 5652, 11)
pub known_kinds : (kind_of (0x2a ∷ 0x86 ∷ 0x48 ∷ 0x86 ∷ 0xf7 ∷ 0x0d ∷ 1 ∷ 9 ∷ 3 ∷ []) ≡ Some ContentType)
    × (kind_of (0x2a ∷ 0x86 ∷ 0x48 ∷ 0x86 ∷ 0xf7 ∷ 0x0d ∷ 1 ∷ 9 ∷ 4 ∷ []) ≡ Some MessageDigest)
    × (kind_of (0x2a ∷ 0x86 ∷ 0x48 ∷ 0x86 ∷ 0xf7 ∷ 0x0d ∷ 1 ∷ 9 ∷ 5 ∷ []) ≡ None)
    × (kind_of (0x2a ∷ 0x86 ∷ 0x48 ∷ 0x86 ∷ 0xf7 ∷ 0x0d ∷ 1 ∷ 9 ∷ 16 ∷ 2 ∷ 47 ∷ []) ≡ Some SigningCertificate)
    -- version 1 of the signing-certificate (RFC 2634, 5.4)
    × (kind_of (0x2a ∷ 0x86 ∷ 0x48 ∷ 0x86 ∷ 0xf7 ∷ 0x0d ∷ 1 ∷ 9 ∷ 16 ∷ 2 ∷ 12 ∷ []) ≡ None)
known_kinds = (refl, refl, refl, refl, refl)

abbrev sha256 : List ℕ
sha256 = 0x60 ∷ 0x86 ∷ 0x48 ∷ 1 ∷ 0x65 ∷ 3 ∷ 4 ∷ 2 ∷ 1 ∷ []

abbrev sha512 : List ℕ
sha512 = 0x60 ∷ 0x86 ∷ 0x48 ∷ 1 ∷ 0x65 ∷ 3 ∷ 4 ∷ 2 ∷ 3 ∷ []

abbrev hss : List ℕ
hss = 0x2a ∷ 0x86 ∷ 0x48 ∷ 0x86 ∷ 0xf7 ∷ 0x0d ∷ 1 ∷ 9 ∷ 16 ∷ 3 ∷ 17 ∷ []

-- NULL is 05 00 (RFC 5754, 2; RFC 8708, 3)
pub known_algorithms : (is_sha256 (record { oid = sha256; params = None }) ≡ true)
    × (is_sha256 (record { oid = sha256; params = Some (5 ∷ 0 ∷ []) }) ≡ true)
    × (is_sha256 (record { oid = sha256; params = Some (5 ∷ 1 ∷ 0 ∷ []) }) ≡ false)
    × (is_sha256 (record { oid = sha512; params = None }) ≡ false)
    × (is_hss_lms (record { oid = hss; params = None }) ≡ true)
    × (is_hss_lms (record { oid = hss; params = Some (5 ∷ 0 ∷ []) }) ≡ false)
known_algorithms = (refl, refl, refl, refl, refl, refl)

-- issuerAndSerialNumber with 1, subjectKeyIdentifier with 3 (RFC 5652, 5.3)
pub known_versions : (fits (1 ∷ []) 0x30 ≡ true) × (fits (3 ∷ []) 0x80 ≡ true) × (fits (3 ∷ []) 0x30 ≡ false)
    × (fits (1 ∷ []) 0x80 ≡ false) × (fits (3 ∷ []) 0xa0 ≡ false)
    × (version_of (0x30 ∷ 0 ∷ []) ≡ 1 ∷ []) × (version_of (0x80 ∷ 1 ∷ 7 ∷ []) ≡ 3 ∷ [])
known_versions = (refl, refl, refl, refl, refl, refl, refl)

-- a0 02 30 00 is signed as 31 02 30 00 (RFC 5652, 5.4)
pub known_set : as_set (0xa0 ∷ 2 ∷ 0x30 ∷ 0 ∷ []) ≡ 0x31 ∷ 2 ∷ 0x30 ∷ 0 ∷ []
known_set = refl

-- no bytes; an empty ContentInfo; one of id-data (RFC 5652, 4); one of id-signedData without its content
pub known_faults : (first_fault [] ≡ Some (faults.Der (record { place = 0; kind = Truncated })))
    × (first_fault (0x30 ∷ 0 ∷ []) ≡ Some (faults.Der (record { place = 2; kind = Truncated })))
    × (first_fault (0x30 ∷ 11 ∷ 6 ∷ 9 ∷ 0x2a ∷ 0x86 ∷ 0x48 ∷ 0x86 ∷ 0xf7 ∷ 0x0d ∷ 1 ∷ 7 ∷ 1 ∷ []) ≡ Some faults.NotSignedData)
    × (first_fault (0x30 ∷ 11 ∷ 6 ∷ 9 ∷ 0x2a ∷ 0x86 ∷ 0x48 ∷ 0x86 ∷ 0xf7 ∷ 0x0d ∷ 1 ∷ 7 ∷ 2 ∷ []) ≡ Some (faults.Der (record { place = 13; kind = Truncated })))
unfolding read expect_of next_of value_at length_at long_length_at extra signed_data_at oid_of value length_octets
known_faults = (refl, refl, refl, refl)

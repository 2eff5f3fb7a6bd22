-- The object identifiers of a signed time-stamp, by their contents octets.
use Rattle.std.specs.Prelude.{ℕ, Bool, List, [], ◌∷◌, ◌&&◌, Option, None, is_none, if◌then◌else◌}
use Rattle.std.specs.Str.{bytes_eq}
use Rattle.hash_kit.specs.declared.algorithm.HashAlg.{HashAlg}
use Rattle.hash_kit.specs.declared.algorithm.HashAlg.TheVariants.{Sha256}
use Rattle.hash_kit.specs.Algorithm.{algorithm_of, oid_of}
use Rattle.der_values.specs.Algorithm.{Name, are_none_or_null}
use Rattle.cms_signed.specs.declared.fault.AttrKind.{AttrKind}
use Rattle.cms_signed.specs.declared.fault.AttrKind.TheVariants.{ContentType, MessageDigest, SigningCertificate}

-- id-signedData, 1.2.840.113549.1.7.2 (RFC 5652, 5.1)
abbrev pub id_signed_data : List ℕ
id_signed_data = 0x2a ∷ 0x86 ∷ 0x48 ∷ 0x86 ∷ 0xf7 ∷ 0x0d ∷ 0x01 ∷ 0x07 ∷ 0x02 ∷ []

-- id-ct-TSTInfo, 1.2.840.113549.1.9.16.1.4 (RFC 3161, 2.4.2)
abbrev pub id_tst_info : List ℕ
id_tst_info = 0x2a ∷ 0x86 ∷ 0x48 ∷ 0x86 ∷ 0xf7 ∷ 0x0d ∷ 0x01 ∷ 0x09 ∷ 0x10 ∷ 0x01 ∷ 0x04 ∷ []

-- id-alg-hss-lms-hashsig, 1.2.840.113549.1.9.16.3.17 (RFC 8708, 3)
abbrev pub id_hss_lms : List ℕ
id_hss_lms = 0x2a ∷ 0x86 ∷ 0x48 ∷ 0x86 ∷ 0xf7 ∷ 0x0d ∷ 0x01 ∷ 0x09 ∷ 0x10 ∷ 0x03 ∷ 0x11 ∷ []

-- The kinds of attribute that are looked into: id-contentType (RFC 5652, 11.1), id-messageDigest (RFC 5652, 11.2)
-- and id-aa-signingCertificateV2 (RFC 5035, 3).
abbrev pub type_of : AttrKind → List ℕ
type_of ContentType = 0x2a ∷ 0x86 ∷ 0x48 ∷ 0x86 ∷ 0xf7 ∷ 0x0d ∷ 0x01 ∷ 0x09 ∷ 0x03 ∷ []
type_of MessageDigest = 0x2a ∷ 0x86 ∷ 0x48 ∷ 0x86 ∷ 0xf7 ∷ 0x0d ∷ 0x01 ∷ 0x09 ∷ 0x04 ∷ []
type_of SigningCertificate = 0x2a ∷ 0x86 ∷ 0x48 ∷ 0x86 ∷ 0xf7 ∷ 0x0d ∷ 0x01 ∷ 0x09 ∷ 0x10 ∷ 0x02 ∷ 0x2f ∷ []

-- in the order in which a missing one is named
abbrev pub known_kinds : List AttrKind
known_kinds = ContentType ∷ MessageDigest ∷ SigningCertificate ∷ []

-- the hash algorithm of a name whose parameters are absent or NULL (RFC 5754, 2)
abbrev pub known_hash : Name → Option HashAlg
known_hash name = if are_none_or_null name.params then algorithm_of name.oid else None

-- SHA-256 as a digest algorithm (RFC 5754, 2.2)
abbrev pub is_sha256 : Name → Bool
is_sha256 name = bytes_eq name.oid (oid_of Sha256) && are_none_or_null name.params

-- HSS/LMS as a signature algorithm, whose parameters are absent (RFC 8708, 3)
abbrev pub is_hss_lms : Name → Bool
is_hss_lms name = bytes_eq name.oid id_hss_lms && is_none name.params

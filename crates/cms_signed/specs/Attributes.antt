-- The signed attributes of a time-stamp. In ASN.1:
--   SignedAttributes ::= SET OF Attribute
--   Attribute ::= SEQUENCE { attrType OBJECT IDENTIFIER, attrValues SET OF AttributeValue }         (RFC 5652, 5.3)
--   SigningCertificateV2 ::= SEQUENCE { certs SEQUENCE OF ESSCertIDv2, policies .. OPTIONAL }       (RFC 5035, 3)
--   ESSCertIDv2 ::= SEQUENCE { hashAlgorithm AlgorithmIdentifier DEFAULT id-sha256, certHash OCTET STRING, .. }  (4)
use Rattle.std.specs.Prelude.{ℕ, List, Option, ◌⊎◌}
use Rattle.der_values.specs.Value.{value}
use Rattle.der_values.specs.Shape.{tagged, unchecked, checked, checked_whole, Shape, nothing_more, unread, required, optional, repeated, checkpoint, depending, spell}
use Rattle.der_values.specs.Algorithm.{algorithm_shape, AlgorithmParts}
use Rattle.cms_signed.specs.Checks.{CmsCheck, in_order, none_of_its_kind_before, is_content_type, is_message_digest, is_signing_certificate, names_tst_info, digest_kept, hash_judged, certificate_kept, none_missing}

-- ---- the tables

-- ESSCertIDv2; what stands behind the certHash is not read
abbrev pub certificate_id : Shape CmsCheck
certificate_id =
    optional (tagged 0x30) (checked_whole hash_judged) algorithm_shape (
    required (tagged 0x04) (checked certificate_kept) unread
    unread)

-- SigningCertificateV2, whose first ESSCertIDv2 alone is read
abbrev pub certificate_ids : Shape CmsCheck
certificate_ids = required (tagged 0x30) unchecked certificate_id unread

-- what stands in SigningCertificateV2
abbrev pub signing_certificate : Shape CmsCheck
signing_certificate = required (tagged 0x30) unchecked certificate_ids unread

-- an attribute of a known kind has one value; that of another kind is not looked into
abbrev pub attribute_values : Shape CmsCheck
attribute_values =
    depending is_content_type (required (tagged 0x06) (checked names_tst_info) unread nothing_more) (
    depending is_message_digest (required (tagged 0x04) (checked digest_kept) unread nothing_more) (
    depending is_signing_certificate (required (tagged 0x30) unchecked signing_certificate nothing_more)
    unread))

-- Attribute: its type, which decides what its values are
abbrev pub attribute : Shape CmsCheck
attribute =
    required (tagged 0x06) (checked none_of_its_kind_before) unread (
    required (tagged 0x31) unchecked attribute_values
    nothing_more)

-- the signed attributes, in the order of a SET OF, none of the known kinds missing
abbrev pub attributes : Shape CmsCheck
attributes = repeated (tagged 0x30) (checked in_order) attribute (checkpoint none_missing nothing_more)

-- ---- what a reading of them gives

abbrev pub CertificateIdParts : Type 0
CertificateIdParts = Option AlgorithmParts × (List ℕ × List ℕ)

abbrev pub SigningCertificateParts : Type 0
SigningCertificateParts = (CertificateIdParts × List ℕ) × List ℕ

abbrev pub ValuesParts : Type 0
ValuesParts = (List ℕ × Unit {0}) ⊎ ((List ℕ × Unit {0}) ⊎ ((SigningCertificateParts × Unit {0}) ⊎ List ℕ))

abbrev pub AttributeParts : Type 0
AttributeParts = List ℕ × (ValuesParts × Unit {0})

abbrev pub AttributesParts : Type 0
AttributesParts = List AttributeParts × Unit {0}

-- the signed attributes as they stand in a SignerInfo, under the tag [0]
abbrev pub encoded : AttributesParts → List ℕ
encoded p = value 0xa0 (spell attributes p)

-- The text of a signed time-stamp that is written: no certificates, one signer, three signed attributes, no others.
use Rattle.std.specs.Prelude.{◌≡◌, ◌≤◌, ◌<◌, ◌^◌, ℕ, List, [], ◌∷◌, ◌++◌, length, Some, ◌==◌, if◌then◌else◌, ◌⊎◌}
use Rattle.hash_kit.specs.declared.algorithm.HashAlg.TheVariants.{Sha256}
use Rattle.hash_kit.specs.Algorithm.{oid_of}
use Rattle.hash_kit.specs.Digest.{digest_of}
use Rattle.der_values.specs.Value.{value, Spells}
use Rattle.cms_signed.specs.declared.fault.AttrKind.{AttrKind}
use Rattle.cms_signed.specs.declared.writing.Unsigned.{Unsigned}
use Rattle.cms_signed.specs.declared.fault.AttrKind.TheVariants.{ContentType, MessageDigest, SigningCertificate}
use Rattle.cms_signed.specs.Names.{id_signed_data, id_tst_info, id_hss_lms, type_of}
use Rattle.cms_signed.specs.Signed.{Parts}

-- what is to be signed: the octets of a TSTInfo, the encoding of the signer's identifier, and the SHA-256 of the
-- signer's certificate
pub record ToSign : Type 0 where
  pub content : List ℕ
  pub sid : List ℕ
  pub cert_hash : List ℕ

-- what an Unsigned holds
abbrev pub to_sign : Unsigned → ToSign
to_sign u = record { content = u.content; sid = u.sid; cert_hash = u.cert_hash }

-- an AlgorithmIdentifier without parameters
abbrev pub algorithm_text : List ℕ → List ℕ
algorithm_text oid = value 0x30 (value 0x06 oid)

-- an attribute with one value (RFC 5652, 5.3)
abbrev pub attribute_text : AttrKind → List ℕ → List ℕ
attribute_text kind text = value 0x30 (value 0x06 (type_of kind) ++ value 0x31 text)

-- the contents of SigningCertificateV2 with one certificate, by SHA-256, which is not written as it is the default
-- (RFC 5035, 3 and 4)
abbrev pub certificate_text : List ℕ → List ℕ
certificate_text hash = value 0x30 (value 0x30 (value 0x30 (value 0x04 hash)))

-- content-type, message-digest and signing-certificate, in the order of a SET OF
abbrev pub attributes_text : ToSign → List ℕ
attributes_text u =
    attribute_text ContentType (value 0x06 id_tst_info)
    ++ attribute_text MessageDigest (value 0x04 (digest_of Sha256 u.content))
    ++ attribute_text SigningCertificate (certificate_text u.cert_hash)

-- version 1 with issuerAndSerialNumber, else 3
abbrev pub version_of : List ℕ → List ℕ
version_of [] = 3 ∷ []
version_of (tag ∷ rest) = if tag == 0x30 then 1 ∷ [] else 3 ∷ []

-- the contents of SignerInfo
abbrev pub signer_contents : ToSign → List ℕ → List ℕ
signer_contents u signature =
    value 0x02 (version_of u.sid)
    ++ u.sid
    ++ algorithm_text (oid_of Sha256)
    ++ value 0xa0 (attributes_text u)
    ++ algorithm_text id_hss_lms
    ++ value 0x04 signature

-- the contents of EncapsulatedContentInfo
abbrev pub encap_contents : List ℕ → List ℕ
encap_contents content = value 0x06 id_tst_info ++ value 0xa0 (value 0x04 content)

-- EncapsulatedContentInfo
abbrev pub content_text : List ℕ → List ℕ
content_text content = value 0x30 (encap_contents content)

-- the contents of SignedData
abbrev pub signed_data_contents : ToSign → List ℕ → List ℕ
signed_data_contents u signature =
    value 0x02 (3 ∷ [])
    ++ value 0x31 (algorithm_text (oid_of Sha256))
    ++ content_text u.content
    ++ value 0x31 (value 0x30 (signer_contents u signature))

-- the contents of ContentInfo
abbrev pub token_contents : ToSign → List ℕ → List ℕ
token_contents u signature = value 0x06 id_signed_data ++ value 0xa0 (value 0x30 (signed_data_contents u signature))

-- the bytes of a token
abbrev pub token_text : ToSign → List ℕ → List ℕ
token_text u signature = value 0x30 (token_contents u signature)

-- what stands in it
abbrev pub written : ToSign → List ℕ → Parts
written u signature = record {
  content = u.content;
  sid = u.sid;
  attrs = value 0xa0 (attributes_text u);
  message_digest = digest_of Sha256 u.content;
  cert_hash = Some u.cert_hash;
  signature = signature;
}

-- The bytes are one value, issuerAndSerialNumber or subjectKeyIdentifier (RFC 5652, 5.3).
pub record IsSid (sid : List ℕ) : Type 0 where
  pub tag : ℕ
  pub content : List ℕ
  pub spells : Spells sid tag content
  pub known : (tag ≡ 0x30) ⊎ (tag ≡ 0x80)

-- The parts have a spelling: the identifier is one; the signing-certificate stands behind the message-digest in the
-- order of a SET OF, which is so from 24 bytes of hash on; lengths are below 2 ^ 32.
pub record HasText (u : ToSign) (signature : List ℕ) : Type 0 where
  pub sid : IsSid u.sid
  pub ascending : 24 ≤ length u.cert_hash
  pub short : length (token_contents u signature) < 2 ^ 32

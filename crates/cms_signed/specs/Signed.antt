-- A signed time-stamp. In ASN.1 (RFC 5652, 3, 5.1, 5.2 and 5.3; RFC 3161, 2.4.2):
--   ContentInfo ::= SEQUENCE { contentType OBJECT IDENTIFIER, content [0] SignedData }
--   SignedData ::= SEQUENCE { version INTEGER, digestAlgorithms SET OF AlgorithmIdentifier,
--     encapContentInfo SEQUENCE { eContentType OBJECT IDENTIFIER, eContent [0] OCTET STRING },
--     certificates [0] OPTIONAL, crls [1] OPTIONAL, signerInfos SET OF SignerInfo }
--   SignerInfo ::= SEQUENCE { version INTEGER, sid SignerIdentifier, digestAlgorithm AlgorithmIdentifier,
--     signedAttrs [0] SignedAttributes, signatureAlgorithm AlgorithmIdentifier, signature OCTET STRING,
--     unsignedAttrs [1] OPTIONAL }
use Rattle.std.specs.Prelude.{ℕ, List, ◌∷◌, drop, Option, Some}
use Rattle.std.specs.Option.{option_map}
use Rattle.der_values.specs.Value.{value}
use Rattle.der_values.specs.Shape.{any_tag, tagged, unchecked, checked, checked_whole, Shape, nothing_more, unread, required, optional, repeated}
use Rattle.der_values.specs.Reading.{first}
use Rattle.der_values.specs.Grammar.{Means, from_start}
use Rattle.der_values.specs.Algorithm.{algorithm_shape, AlgorithmParts}
use Rattle.cms_signed.specs.declared.fault.CmsFault.{CmsFault}
use Rattle.cms_signed.specs.declared.token.Signed.{Signed}
use Rattle.cms_signed.specs.State.{State, start}
use Rattle.cms_signed.specs.Checks.{CmsCheck, content_is_signed_data, version_is_3, content_is_tst_info, one_signer, version_kept, version_fits, digest_is_sha256, signature_is_hss_lms, cms_checks}
use Rattle.cms_signed.specs.Attributes.{attributes, AttributesParts, encoded}

-- ---- the tables

abbrev pub algorithms : Shape CmsCheck
algorithms = repeated (tagged 0x30) unchecked algorithm_shape nothing_more

abbrev pub octets_in_0 : Shape CmsCheck
octets_in_0 = required (tagged 0x04) unchecked unread nothing_more

abbrev pub encap_content_info : Shape CmsCheck
encap_content_info =
    required (tagged 0x06) (checked content_is_tst_info) unread (
    required (tagged 0xa0) unchecked octets_in_0
    nothing_more)

-- from the signed attributes on
abbrev pub signature_info : Shape CmsCheck
signature_info =
    required (tagged 0xa0) unchecked attributes (
    required (tagged 0x30) (checked_whole signature_is_hss_lms) algorithm_shape (
    required (tagged 0x04) unchecked unread (
    optional (tagged 0xa1) unchecked unread
    nothing_more)))

-- SignerInfo
abbrev pub signer_info : Shape CmsCheck
signer_info =
    required (tagged 0x02) (checked version_kept) unread (
    required any_tag (checked version_fits) unread (
    required (tagged 0x30) (checked_whole digest_is_sha256) algorithm_shape
    signature_info))

-- its SET, with one signer
abbrev pub signer_infos : Shape CmsCheck
signer_infos = required (tagged 0x30) unchecked signer_info nothing_more

-- from the certificates on
abbrev pub end_of_signed_data : Shape CmsCheck
end_of_signed_data =
    optional (tagged 0xa0) unchecked unread (
    optional (tagged 0xa1) unchecked unread (
    required (tagged 0x31) (checked one_signer) signer_infos
    nothing_more))

-- SignedData
abbrev pub signed_data : Shape CmsCheck
signed_data =
    required (tagged 0x02) (checked version_is_3) unread (
    required (tagged 0x31) unchecked algorithms (
    required (tagged 0x30) unchecked encap_content_info
    end_of_signed_data))

-- the SignedData under the tag [0]
abbrev pub signed_data_in_0 : Shape CmsCheck
signed_data_in_0 = required (tagged 0x30) unchecked signed_data nothing_more

-- ContentInfo
abbrev pub content_info : Shape CmsCheck
content_info =
    required (tagged 0x06) (checked content_is_signed_data) unread (
    required (tagged 0xa0) unchecked signed_data_in_0
    nothing_more)

-- all of a token, with nothing behind it
abbrev pub token : Shape CmsCheck
token = required (tagged 0x30) unchecked content_info nothing_more

-- ---- what a reading of them gives

abbrev pub ContentParts : Type 0
ContentParts = List ℕ × ((List ℕ × Unit {0}) × Unit {0})

abbrev pub SignatureParts : Type 0
SignatureParts = AttributesParts × (AlgorithmParts × (List ℕ × (Option (List ℕ) × Unit {0})))

abbrev pub SignerParts : Type 0
SignerParts = List ℕ × ((ℕ × List ℕ) × (AlgorithmParts × SignatureParts))

abbrev pub SignersParts : Type 0
SignersParts = SignerParts × Unit {0}

abbrev pub EndParts : Type 0
EndParts = Option (List ℕ) × (Option (List ℕ) × (SignersParts × Unit {0}))

abbrev pub SignedDataParts : Type 0
SignedDataParts = List ℕ × ((List AlgorithmParts × Unit {0}) × (ContentParts × EndParts))

abbrev pub ContentInfoParts : Type 0
ContentInfoParts = List ℕ × ((SignedDataParts × Unit {0}) × Unit {0})

abbrev pub TokenParts : Type 0
TokenParts = ContentInfoParts × Unit {0}

-- ---- the parts that are named

-- what is kept of the three kinds of attribute
abbrev pub kept : List ℕ → Option (List ℕ) → State
kept message_digest cert_hash = record start { message_digest = Some message_digest; certificate = Some cert_hash }

-- the attributes with what was found among them
pub record NamedAttributes : Type 0 where
  pub encoding : List ℕ
  pub state : State

-- what is named of the attributes
abbrev pub attributes_named : AttributesParts → State → NamedAttributes
attributes_named p σ = record { encoding = encoded p; state = σ }

-- that, and the signature
pub record NamedSignature : Type 0 where
  pub attributes : NamedAttributes
  pub signature : List ℕ

-- what is named from the attributes on
abbrev pub signature_named : SignatureParts → State → NamedSignature
signature_named p σ = record { attributes = attributes_named p.0 σ; signature = p.1.1.0 }

-- that, and the signer's identifier
pub record NamedSigner : Type 0 where
  pub sid : List ℕ
  pub signed : NamedSignature

-- what is named of a signer
abbrev pub signer_named : SignerParts → State → NamedSigner
signer_named p σ = record { sid = value p.1.0.0 p.1.0.1; signed = signature_named p.1.1.1 σ }

-- what is named of the SET of signers
abbrev pub signers_named : SignersParts → State → NamedSigner
signers_named p σ = signer_named p.0 σ

-- what is named from the certificates on
abbrev pub end_of_signed_data_named : EndParts → State → NamedSigner
end_of_signed_data_named p σ = signers_named p.1.1.0 σ

-- that, and the content
pub record NamedParts : Type 0 where
  pub content : List ℕ
  pub signer : NamedSigner

-- what is named of SignedData
abbrev pub signed_data_named : SignedDataParts → State → NamedParts
signed_data_named p σ = record { content = p.1.1.0.1.0.0; signer = end_of_signed_data_named p.1.1.1 σ }

-- what is named under the tag [0]
abbrev pub explicit_named : SignedDataParts × Unit {0} → State → NamedParts
explicit_named p σ = signed_data_named p.0 σ

-- what is named of ContentInfo
abbrev pub content_info_named : ContentInfoParts → State → NamedParts
content_info_named p σ = explicit_named p.1.0 σ

-- what is named of a token
abbrev pub token_named : TokenParts → State → NamedParts
token_named p σ = content_info_named p.0 σ

-- A signed time-stamp by its named parts: the octets of the content that is signed, the encoding of the signer's
-- identifier, the encoding of the signed attributes, the digest among them, the certificate's hash among them where
-- it is by SHA-256, and the octets of the signature.
pub record Parts : Type 0 where
  pub content : List ℕ
  pub sid : List ℕ
  pub attrs : List ℕ
  pub message_digest : List ℕ
  pub cert_hash : Option (List ℕ)
  pub signature : List ℕ

-- what a Signed says
abbrev pub signed_seen : Signed → Parts
signed_seen s = record { content = s.content.now; sid = s.sid.now; attrs = s.attrs.now; message_digest = s.message_digest.now; cert_hash = option_map (λ b. b.now) s.cert_hash; signature = s.signature.now }

-- the parts of a signed time-stamp as a reading names them
abbrev pub named : Parts → NamedParts
named s = record {
  content = s.content;
  signer = record {
    sid = s.sid;
    signed = record {
      attributes = record { encoding = s.attrs; state = kept s.message_digest s.cert_hash };
      signature = s.signature;
    };
  };
}

-- ---- the grammar, the first fault

-- The bytes are a signed time-stamp with these parts.
abbrev pub ReadsSigned : List ℕ → Parts → Type 0
ReadsSigned bytes s = Means cms_checks token start token_named (from_start bytes) (named s)

-- the first fault of the bytes as a signed time-stamp, or none
abbrev pub first_fault : List ℕ → Option CmsFault
first_fault bytes = first cms_checks token start (from_start bytes)

-- What is signed: the encoding of the attributes with the tag of a SET OF in place of [0] (RFC 5652, 5.4).
abbrev pub as_set : List ℕ → List ℕ
as_set attrs = 0x31 ∷ drop 1 attrs

-- What private functions of the crate say of each other.
use Rattle.std.specs.Prelude.{ℕ, ◌<◌, ◌^◌, List, length, Option}
use Rattle.std.specs.Borrow.{Bor}
use Rattle.std.specs.Option.{option_map}
use Rattle.der_values.specs.declared.fault.DerFault.{DerFault}
use Rattle.der_values.specs.Input.{Input, Item}
use Rattle.der_values.specs.Value.{value}
use Rattle.der_values.specs.Shape.{any_tag, tagged, unchecked, checked, checked_whole, unread}
use Rattle.der_values.specs.Reading.{Reading, body, body_optional, read_each, read}
use Rattle.der_values.specs.Algorithm.{plain, algorithm_shape, AlgorithmParts}
use Rattle.cms_signed.specs.declared.fault.CmsFault.{CmsFault}
use Rattle.cms_signed.specs.declared.fault.CmsFault.TheVariants.{Der}
use Rattle.cms_signed.specs.declared.attributes.Attributes.{Attributes}
use Rattle.cms_signed.specs.declared.attributes.SignedAttributes.{SignedAttributes}
use Rattle.cms_signed.specs.declared.signers.Signature.{Signature}
use Rattle.cms_signed.specs.declared.signers.SignerInfo.{SignerInfo}
use Rattle.cms_signed.specs.declared.token.Signed.{Signed}
use Rattle.cms_signed.specs.State.{State, start}
use Rattle.cms_signed.specs.Checks.{in_order, hash_judged, one_signer, digest_is_sha256, signature_is_hss_lms, cms_checks}
use Rattle.cms_signed.specs.Attributes.{certificate_id, certificate_ids, signing_certificate, attribute_values, attribute, attributes, CertificateIdParts, SigningCertificateParts, ValuesParts, AttributeParts, AttributesParts}
use Rattle.cms_signed.specs.Signed.{algorithms, octets_in_0, encap_content_info, signature_info, signer_info, signer_infos, end_of_signed_data, signed_data, signed_data_in_0, content_info, token, ContentParts, SignatureParts, SignerParts, SignersParts, EndParts, SignedDataParts, ContentInfoParts, TokenParts, kept, NamedAttributes, NamedSignature, NamedSigner, NamedParts, named, signed_seen}
use Rattle.cms_signed.specs.Text.{ToSign, signer_contents, encap_contents, signed_data_contents}

-- ---- what parts are named and seen

-- the octets of the content, and the state after them
abbrev pub octets_in_0_named : List ℕ × Unit {0} → State → List ℕ × State
octets_in_0_named p σ = (p.0, σ)

abbrev pub content_named : ContentParts → State → List ℕ × State
content_named p σ = (p.1.0.0, σ)

-- the octets of the content
abbrev pub content_seen : Bor (List ℕ) → List ℕ × State
content_seen b = (b.now, start)

-- while the attributes are read
abbrev pub state_of : Attributes → State
state_of a = record start { before = a.before.now; kind = a.kind; content_type = a.content_type; message_digest = option_map (λ b. b.now) a.message_digest; by_sha256 = a.by_sha256; certificate = option_map (λ c. option_map (λ b. b.now) c) a.certificate }

-- after them
abbrev pub kept_by : SignedAttributes → State
kept_by a = kept a.message_digest.now (option_map (λ b. b.now) a.cert_hash)

abbrev pub attributes_seen : SignedAttributes → NamedAttributes
attributes_seen a = record { encoding = a.whole.now; state = kept_by a }

abbrev pub signature_seen : Signature → NamedSignature
signature_seen s = record { attributes = attributes_seen s.attributes; signature = s.octets.now }

abbrev pub signer_seen : SignerInfo → NamedSigner
signer_seen s = record { sid = s.sid.now; signed = signature_seen s.signature }

abbrev pub named_seen : Signed → NamedParts
named_seen s = named (signed_seen s)

-- What a writer makes has room in the value that it stands in.
pub record HasRoom (u : ToSign) (signature : List ℕ) : Type 0 where
  pub signed_data : length (signed_data_contents u signature) < 2 ^ 32
  pub signers : length (value 0x30 (signer_contents u signature)) < 2 ^ 32
  pub signer : length (signer_contents u signature) < 2 ^ 32
  pub octets : length signature < 2 ^ 32
  pub encap : length (encap_contents u.content) < 2 ^ 32
  pub explicit : length (value 0x04 u.content) < 2 ^ 32
  pub content : length u.content < 2 ^ 32

-- ---- the readings of the values of a SET, of any tags

abbrev pub value_in : Unit {0} → Item → Reading (ℕ × List ℕ) (Unit {0}) DerFault
value_in σ v = body plain any_tag unchecked (read plain unread) σ v

abbrev pub each_value : Input → Reading (List (ℕ × List ℕ)) (Unit {0}) DerFault
each_value input = read_each (λ e. e) any_tag value_in (length input.left) tt input

-- ---- the readings of the signed attributes

abbrev pub hash_algorithm_in : State → Option Item → Reading (Option AlgorithmParts) State CmsFault
hash_algorithm_in σ v = body_optional (body cms_checks (tagged 0x30) (checked_whole hash_judged) (read cms_checks algorithm_shape)) σ v

abbrev pub certificate_id_in : State → Item → Reading CertificateIdParts State CmsFault
certificate_id_in σ v = body cms_checks (tagged 0x30) unchecked (read cms_checks certificate_id) σ v

abbrev pub certificate_ids_in : State → Item → Reading (CertificateIdParts × List ℕ) State CmsFault
certificate_ids_in σ v = body cms_checks (tagged 0x30) unchecked (read cms_checks certificate_ids) σ v

abbrev pub signing_certificate_in : State → Item → Reading SigningCertificateParts State CmsFault
signing_certificate_in σ v = body cms_checks (tagged 0x30) unchecked (read cms_checks signing_certificate) σ v

abbrev pub values_in : State → Item → Reading ValuesParts State CmsFault
values_in σ v = body cms_checks (tagged 0x31) unchecked (read cms_checks attribute_values) σ v

abbrev pub attribute_in : State → Item → Reading AttributeParts State CmsFault
attribute_in σ v = body cms_checks (tagged 0x30) (checked in_order) (read cms_checks attribute) σ v

abbrev pub each_attribute : Input → Reading (List AttributeParts) State CmsFault
each_attribute input = read_each Der (tagged 0x30) attribute_in (length input.left) start input

abbrev pub attributes_in : State → Item → Reading AttributesParts State CmsFault
attributes_in σ v = body cms_checks (tagged 0xa0) unchecked (read cms_checks attributes) σ v

-- ---- the readings of the signed data

abbrev pub algorithms_in : State → Item → Reading (List AlgorithmParts × Unit {0}) State CmsFault
algorithms_in σ v = body cms_checks (tagged 0x31) unchecked (read cms_checks algorithms) σ v

abbrev pub algorithm_in : State → Item → Reading AlgorithmParts State CmsFault
algorithm_in σ v = body cms_checks (tagged 0x30) unchecked (read cms_checks algorithm_shape) σ v

abbrev pub each_algorithm : Input → Reading (List AlgorithmParts) State CmsFault
each_algorithm input = read_each Der (tagged 0x30) algorithm_in (length input.left) start input

abbrev pub digest_algorithm_in : State → Item → Reading AlgorithmParts State CmsFault
digest_algorithm_in σ v = body cms_checks (tagged 0x30) (checked_whole digest_is_sha256) (read cms_checks algorithm_shape) σ v

abbrev pub octets_in_0_in : State → Item → Reading (List ℕ × Unit {0}) State CmsFault
octets_in_0_in σ v = body cms_checks (tagged 0xa0) unchecked (read cms_checks octets_in_0) σ v

abbrev pub content_in : State → Item → Reading ContentParts State CmsFault
content_in σ v = body cms_checks (tagged 0x30) unchecked (read cms_checks encap_content_info) σ v

abbrev pub signature_algorithm_in : State → Item → Reading AlgorithmParts State CmsFault
signature_algorithm_in σ v = body cms_checks (tagged 0x30) (checked_whole signature_is_hss_lms) (read cms_checks algorithm_shape) σ v

abbrev pub signature_in : Input → Reading SignatureParts State CmsFault
signature_in input = read cms_checks signature_info start input

abbrev pub signer_in : State → Item → Reading SignerParts State CmsFault
signer_in σ v = body cms_checks (tagged 0x30) unchecked (read cms_checks signer_info) σ v

abbrev pub signers_in : State → Item → Reading SignersParts State CmsFault
signers_in σ v = body cms_checks (tagged 0x31) (checked one_signer) (read cms_checks signer_infos) σ v

abbrev pub end_of_signed_data_in : Input → Reading EndParts State CmsFault
end_of_signed_data_in input = read cms_checks end_of_signed_data start input

abbrev pub signed_data_in : State → Item → Reading SignedDataParts State CmsFault
signed_data_in σ v = body cms_checks (tagged 0x30) unchecked (read cms_checks signed_data) σ v

abbrev pub explicit_in : State → Item → Reading (SignedDataParts × Unit {0}) State CmsFault
explicit_in σ v = body cms_checks (tagged 0xa0) unchecked (read cms_checks signed_data_in_0) σ v

abbrev pub content_info_in : State → Item → Reading ContentInfoParts State CmsFault
content_info_in σ v = body cms_checks (tagged 0x30) unchecked (read cms_checks content_info) σ v

abbrev pub token_in : Input → Reading TokenParts State CmsFault
token_in input = read cms_checks token start input

-- The checks on a signed time-stamp, each made where its value is read.
use Rattle.std.specs.Prelude.{ℕ, Bool, true, false, not, ◌&&◌, ◌||◌, List, [], ◌∷◌, length, Option, Some, None, Result, Ok, Err, ◌==◌, if◌then◌else◌, find}
use Rattle.std.specs.Ordering.{is_gt}
use Rattle.std.specs.Str.{bytes_eq}
use Rattle.der_values.specs.Input.{Input, Item}
use Rattle.der_values.specs.Value.{value}
use Rattle.der_values.specs.Steps.{◌>>=◌, lift}
use Rattle.der_values.specs.Next.{contents}
use Rattle.der_values.specs.Typed.{integer_of, oid_of}
use Rattle.der_values.specs.Order.{set_order_of}
use Rattle.der_values.specs.Shape.{any_tag, unchecked, Shape, nothing_more, unread, repeated, Checks}
use Rattle.der_values.specs.Reading.{read}
use Rattle.der_values.specs.Algorithm.{NoChecks, plain, name_of, algorithm_of}
use Rattle.cms_signed.specs.declared.fault.AttrKind.{AttrKind}
use Rattle.cms_signed.specs.declared.fault.AttrKind.TheVariants as kinds
use Rattle.cms_signed.specs.declared.fault.CmsFault.{CmsFault}
use Rattle.cms_signed.specs.declared.fault.CmsFault.TheVariants.{Der, NotSignedData, Version, ContentType, Signers, SignerVersion, DigestAlg, AttrOrder, DoubleAttr, MissingAttr, SignatureAlg}
use Rattle.cms_signed.specs.Names.{id_signed_data, id_tst_info, type_of, known_kinds, is_sha256, is_hss_lms}
use Rattle.cms_signed.specs.State.{State, start, has_come}

-- the names of the checks
pub data CmsCheck : Type 0 where
  -- of ContentInfo, SignedData and what is signed
  content_is_signed_data : CmsCheck
  version_is_3 : CmsCheck
  content_is_tst_info : CmsCheck
  one_signer : CmsCheck
  -- of SignerInfo
  version_kept : CmsCheck
  version_fits : CmsCheck
  digest_is_sha256 : CmsCheck
  signature_is_hss_lms : CmsCheck
  -- of the signed attributes
  in_order : CmsCheck
  none_of_its_kind_before : CmsCheck
  is_content_type : CmsCheck
  is_message_digest : CmsCheck
  is_signing_certificate : CmsCheck
  names_tst_info : CmsCheck
  digest_kept : CmsCheck
  hash_judged : CmsCheck
  certificate_kept : CmsCheck
  none_missing : CmsCheck

-- the state stays where the test holds, else this is the fault
abbrev pub demand : {S : Type 0} → Bool → CmsFault → S → Result S CmsFault
demand b fault σ = if b then Ok σ else Err fault

-- ---- ContentInfo (RFC 5652, 3) and SignedData (5.1)

unfoldable pub signed_data_at : State → Item → Result State CmsFault
signed_data_at σ v = lift Der (oid_of v) >>= λ oid. demand (bytes_eq oid id_signed_data) NotSignedData σ

unfoldable pub version_at : State → Item → Result State CmsFault
version_at σ v = lift Der (integer_of v) >>= λ n. demand (bytes_eq n (3 ∷ [])) Version σ

unfoldable pub tst_info_at : State → Item → Result State CmsFault
tst_info_at σ v = lift Der (oid_of v) >>= λ oid. demand (bytes_eq oid id_tst_info) ContentType σ

-- the values of a SET, of any tags
abbrev pub values_shape : Shape NoChecks
values_shape = repeated any_tag unchecked unread nothing_more

-- the signers are counted by their headers, before the first is read
unfoldable pub one_signer_at : State → Item → Result State CmsFault
one_signer_at σ v = lift Der (read plain values_shape tt (contents v)) >>= λ x. demand (length x.0.0 == 1) (Signers (length x.0.0)) σ

-- ---- SignerInfo (RFC 5652, 5.3)

-- version INTEGER, which is judged at the identifier (RFC 5652, 5.3)
unfoldable pub signer_version_at : State → Item → Result State CmsFault
signer_version_at σ v = lift Der (integer_of v) >>= λ n. Ok (record σ { version = n })

-- version 1 with issuerAndSerialNumber, a SEQUENCE, and 3 with subjectKeyIdentifier, which is [0]
abbrev pub fits : List ℕ → ℕ → Bool
fits version tag = (bytes_eq version (1 ∷ []) && tag == 0x30) || (bytes_eq version (3 ∷ []) && tag == 0x80)

-- the version is not needed any more
unfoldable pub sid_at : State → Item → Result State CmsFault
sid_at σ v = demand (fits σ.version v.tag) SignerVersion start

-- an AlgorithmIdentifier that was read whole
unfoldable pub digest_algorithm_at : State → Item → Result State CmsFault
digest_algorithm_at σ v = lift Der (algorithm_of (contents v)) >>= λ x. demand (is_sha256 (name_of x.0)) DigestAlg σ

-- signatureAlgorithm, which has to be HSS/LMS
unfoldable pub signature_algorithm_at : State → Item → Result State CmsFault
signature_algorithm_at σ v = lift Der (algorithm_of (contents v)) >>= λ x. demand (is_hss_lms (name_of x.0)) SignatureAlg σ

-- ---- the signed attributes (RFC 5652, 5.3 and 11; RFC 5035, 3)

-- a SET OF in DER (X.690, 11.6)
unfoldable pub attribute_at : State → Item → Result State CmsFault
attribute_at σ v = if is_gt (set_order_of σ.before (value v.tag v.content)) then Err AttrOrder else Ok (record σ { before = value v.tag v.content })

-- the kind of an attribute of this type
abbrev pub kind_of : List ℕ → Option AttrKind
kind_of oid = find (λ kind. bytes_eq oid (type_of kind)) known_kinds

-- no attribute of a known kind comes twice
abbrev pub first_of_kind : State → Option AttrKind → Result State CmsFault
first_of_kind σ None = Ok (record σ { kind = None })
first_of_kind σ (Some kind) = demand (not (has_come σ kind)) (DoubleAttr kind) (record σ { kind = Some kind })

-- attrType, an OBJECT IDENTIFIER that no attribute before has where its kind is known
unfoldable pub type_at : State → Item → Result State CmsFault
type_at σ v = lift Der (oid_of v) >>= λ oid. first_of_kind σ (kind_of oid)

-- the attribute that is read is of this kind
abbrev pub is_kind : AttrKind → Option AttrKind → Bool
is_kind kind None = false
is_kind kinds.ContentType (Some kinds.ContentType) = true
is_kind kinds.MessageDigest (Some kinds.MessageDigest) = true
is_kind kinds.SigningCertificate (Some kinds.SigningCertificate) = true
is_kind kind (Some other) = false

-- the value of content-type, which has to be id-ct-TSTInfo
unfoldable pub content_type_at : State → Item → Result State CmsFault
content_type_at σ v = tst_info_at (record σ { content_type = true }) v

-- hashAlgorithm of ESSCertIDv2, which was read whole
unfoldable pub hash_algorithm_at : State → Item → Result State CmsFault
hash_algorithm_at σ v = lift Der (algorithm_of (contents v)) >>= λ x. Ok (record σ { by_sha256 = is_sha256 (name_of x.0) })

-- certHash of ESSCertIDv2, which counts where it is by SHA-256
abbrev pub cert_hash_at : State → Item → Result State CmsFault
cert_hash_at σ v = Ok (record σ { certificate = Some (if σ.by_sha256 then Some v.content else None) })

-- after the last attribute; only what has come is needed any more
abbrev pub named_missing : State → Option AttrKind → Result State CmsFault
named_missing σ None = Ok (record start { message_digest = σ.message_digest; certificate = σ.certificate })
named_missing σ (Some kind) = Err (MissingAttr kind)

-- what has come is kept, unless a known kind is missing: the first of them in their order
unfoldable pub missing_of : State → Result State CmsFault
missing_of σ = named_missing σ (find (λ kind. not (has_come σ kind)) known_kinds)

-- ---- what the names of the checks mean

abbrev pub judge : CmsCheck → State → Item → Result State CmsFault
judge content_is_signed_data σ v = signed_data_at σ v
judge version_is_3 σ v = version_at σ v
judge content_is_tst_info σ v = tst_info_at σ v
judge one_signer σ v = one_signer_at σ v
judge version_kept σ v = signer_version_at σ v
judge version_fits σ v = sid_at σ v
judge digest_is_sha256 σ v = digest_algorithm_at σ v
judge signature_is_hss_lms σ v = signature_algorithm_at σ v
judge in_order σ v = attribute_at σ v
judge none_of_its_kind_before σ v = type_at σ v
judge names_tst_info σ v = content_type_at σ v
judge digest_kept σ v = Ok (record σ { message_digest = Some v.content })
judge hash_judged σ v = hash_algorithm_at σ v
judge certificate_kept σ v = cert_hash_at σ v
judge c σ v = Ok σ

abbrev pub judge_point : CmsCheck → State → Input → Result State CmsFault
judge_point none_missing σ input = missing_of σ
judge_point c σ input = Ok σ

abbrev pub is_of_kind : CmsCheck → State → Bool
is_of_kind is_content_type σ = is_kind kinds.ContentType σ.kind
is_of_kind is_message_digest σ = is_kind kinds.MessageDigest σ.kind
is_of_kind is_signing_certificate σ = is_kind kinds.SigningCertificate σ.kind
is_of_kind c σ = false

abbrev pub cms_checks : Checks CmsCheck State CmsFault
cms_checks = record { der = Der; at_value = judge; at_point = judge_point; holds = is_of_kind }

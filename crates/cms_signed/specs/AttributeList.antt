-- The signed attributes as a list, apart from how they are read (RFC 5652, 5.3 and 11; RFC 5035, 3 and 4).
use Rattle.std.specs.Prelude.{◌≡◌, ℕ, Bool, true, List, [], ◌∷◌, ◌++◌, Option, Some, None, filter, if◌then◌else◌}
use Rattle.std.specs.List.{flat_map}
use Rattle.std.specs.Str.{bytes_eq}
use Rattle.der_values.specs.Value.{value}
use Rattle.der_values.specs.Algorithm.{Name, name_contents}
use Rattle.cms_signed.specs.declared.fault.AttrKind.{AttrKind}
use Rattle.cms_signed.specs.declared.fault.AttrKind.TheVariants.{ContentType, MessageDigest, SigningCertificate}
use Rattle.cms_signed.specs.Names.{id_tst_info, type_of, is_sha256}
use Rattle.cms_signed.specs.Signed.{Parts}

-- an attribute: the contents of its type, an OBJECT IDENTIFIER, and those of the SET of its values
pub record Attribute : Type 0 where
  pub type : List ℕ
  pub values : List ℕ

-- Attribute ::= SEQUENCE { attrType, attrValues } (RFC 5652, 5.3)
abbrev pub attribute_spelling : Attribute → List ℕ
attribute_spelling a = value 0x30 (value 0x06 a.type ++ value 0x31 a.values)

-- the signed attributes as they stand in a SignerInfo, under the tag [0]
abbrev pub attributes_spelling : List Attribute → List ℕ
attributes_spelling list = value 0xa0 (flat_map attribute_spelling list)

-- those of this kind, by their type
abbrev pub of_kind : AttrKind → List Attribute → List Attribute
of_kind kind list = filter (λ (a : Attribute). bytes_eq a.type (type_of kind)) list

-- one attribute of this kind, with these contents of its SET
abbrev pub one_of : AttrKind → List ℕ → List Attribute
one_of kind values = record { type = type_of kind; values = values } ∷ []

-- hashAlgorithm AlgorithmIdentifier DEFAULT id-sha256 (RFC 5035, 4)
abbrev pub hash_algorithm_spelling : Option Name → List ℕ
hash_algorithm_spelling None = []
hash_algorithm_spelling (Some name) = value 0x30 (name_contents name)

-- the certHash is by SHA-256: no hash algorithm stands there, or this one
abbrev pub is_by_sha256 : Option Name → Bool
is_by_sha256 None = true
is_by_sha256 (Some name) = is_sha256 name

-- The bytes are one SigningCertificateV2, whose first ESSCertIDv2 has this certHash where it is by SHA-256, whatever
-- stands behind the certHash, the first certificate and the certificates (RFC 5035, 3 and 4).
pub record NamesCertificate (bytes : List ℕ) (cert_hash : Option (List ℕ)) : Type 0 where
  pub algorithm : Option Name
  pub hash : List ℕ
  pub behind_hash : List ℕ
  pub behind_first : List ℕ
  pub behind_certificates : List ℕ
  pub spelled : bytes ≡ value 0x30 (value 0x30 (value 0x30 (hash_algorithm_spelling algorithm ++ (value 0x04 hash ++ behind_hash)) ++ behind_first) ++ behind_certificates)
  pub counted : cert_hash ≡ (if is_by_sha256 algorithm then Some hash else None)

-- The list is that of the signed attributes, and among them are one content-type, which is id-ct-TSTInfo, one
-- message-digest with this digest alone, and one signing-certificate, which names the certificate of this hash.
pub record HasAttributes (s : Parts) (list : List Attribute) : Type 0 where
  pub spelled : s.attrs ≡ attributes_spelling list
  pub content_type : of_kind ContentType list ≡ one_of ContentType (value 0x06 id_tst_info)
  pub message_digest : of_kind MessageDigest list ≡ one_of MessageDigest (value 0x04 s.message_digest)
  pub certificate : List ℕ
  pub signing_certificate : of_kind SigningCertificate list ≡ one_of SigningCertificate certificate
  pub names : NamesCertificate certificate s.cert_hash

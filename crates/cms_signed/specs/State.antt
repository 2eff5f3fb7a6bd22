-- What is kept while a signer is read.
use Rattle.std.specs.Prelude.{ℕ, Bool, true, false, List, [], Option, None, is_some}
use Rattle.cms_signed.specs.declared.fault.AttrKind.{AttrKind}
use Rattle.cms_signed.specs.declared.fault.AttrKind.TheVariants.{ContentType, MessageDigest, SigningCertificate}

-- what was found while a signer is read: its version, the attribute before, the kinds of attribute that have come
pub record State : Type 0 where
  -- the version of the SignerInfo
  pub version : List ℕ
  -- the encoding of the attribute before
  pub before : List ℕ
  -- the kind of the attribute that is being read, where it is a known one
  pub kind : Option AttrKind
  -- whether a content-type has come
  pub content_type : Bool
  -- the digest of the message-digest that has come
  pub message_digest : Option (List ℕ)
  -- whether the certificate's hash is by SHA-256, as it is by default
  pub by_sha256 : Bool
  -- of the signing-certificate that has come, the certificate's hash where it is by SHA-256
  pub certificate : Option (Option (List ℕ))

-- nothing was found yet
abbrev pub start : State
start = record { version = []; before = []; kind = None; content_type = false; message_digest = None; by_sha256 = true; certificate = None }

-- an attribute of this kind has come
abbrev pub has_come : State → AttrKind → Bool
has_come σ ContentType = σ.content_type
has_come σ MessageDigest = is_some σ.message_digest
has_come σ SigningCertificate = is_some σ.certificate

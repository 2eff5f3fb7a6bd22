-- The signature of a record's first token.
use Rattle.std.specs.Prelude.{◌≡◌, ℕ, List, ◌∷◌, Option, Some, None}
use Rattle.algorithm_policy.specs.declared.signer.Signer.{Signer}
use Rattle.algorithm_policy.specs.Content.{Content, signer_of}
use Rattle.cms_signed.specs.Signed.{Parts, ReadsSigned, as_set}
use Rattle.evidence_syntax.specs.Stamps.{Stamp}
use Rattle.evidence_syntax.specs.Record.{EvidenceRecord, Spells}

-- the token of the first time-stamp of the first chain
abbrev pub first_token : List (List Stamp) → Option (List ℕ)
first_token ((stamp ∷ stamps) ∷ chains) = Some stamp.token
first_token chains = None

-- The bytes are a record (RFC 4998, 3.1), and this is its first token.
pub record IsFirstToken (bytes token : List ℕ) : Type 0 where
  pub evidence : EvidenceRecord
  pub spells : Spells bytes evidence
  pub is_first : first_token evidence.chains ≡ Some token

-- The first token of these bytes is signed data whose signer is an authority of the policy with this key. The signature is
-- the token's, and the message is what it signs: the signed attributes as a SET OF (RFC 5652, 5.4).
pub record IsFirstSignature (policy : Content) (bytes key message signature : List ℕ) : Type 0 where
  pub token : List ℕ
  pub is_token : IsFirstToken bytes token
  pub signed : Parts
  pub reads : ReadsSigned token signed
  pub signer : Signer
  pub found : signer_of policy signed.sid ≡ Some signer
  pub is_key : key ≡ signer.key
  pub is_message : message ≡ as_set signed.attrs
  pub is_signature : signature ≡ signed.signature

-- What signed data hands out stands among its signed attributes, and bytes without a first fault are signed data.
use Rattle.std.proofs.Common.{◌≡◌, ℕ, Bool, List, ◌∷◌, ◌++◌, length, Option, Some, None, Result, Ok, Err, refl, sym, ap, subst, ◌∙◌, take_at, drop_at}
use Rattle.std.specs.Prelude.{map}
use Rattle.der_values.specs.Value.{length_octets, value}
use Rattle.der_values.specs.Steps.{◌>>=◌, lift}
use Rattle.der_values.specs.Next.{contents}
use Rattle.der_values.specs.Shape.{Check, tagged, unchecked, checked_whole, unread, spell}
use Rattle.der_values.specs.Grammar.{ValidValue, ValidOptional, Valid, from_start}
use Rattle.der_values.specs.Algorithm.{name_of, AlgorithmParts, algorithm_shape, algorithm_of}
use Rattle.der_values.proofs.Octets.{IsBytes, IsBytes-take, IsBytes-drop, IsBytes-rest}
use Rattle.der_values.proofs.Values.{ok_is}
use Rattle.der_values.proofs.Written.{item}
use Rattle.der_values.proofs.Meaning.{free_means}
use Rattle.der_values.proofs.Accepted.{algorithm_read, unchecked_inside, last_inside}
use Rattle.cms_signed.specs.declared.fault.AttrKind.TheVariants.{MessageDigest}
use Rattle.cms_signed.specs.declared.fault.CmsFault.{CmsFault}
use Rattle.cms_signed.specs.declared.fault.CmsFault.TheVariants as faults
use Rattle.cms_signed.specs.Names.{is_sha256, is_hss_lms}
use Rattle.cms_signed.specs.State.{State, start}
use Rattle.cms_signed.specs.Checks.{CmsCheck, digest_is_sha256, signature_is_hss_lms, demand, fits, sid_at, digest_algorithm_at, signature_algorithm_at, cms_checks}
use Rattle.cms_signed.specs.Attributes.{attributes, AttributesParts}
use Rattle.cms_signed.specs.AttributeList.{Attribute, one_of, NamesCertificate, HasAttributes}
use Rattle.cms_signed.specs.Signed.{octets_in_0, encap_content_info, signature_info, signer_info, end_of_signed_data, signed_data, signed_data_in_0, content_info, token, SignatureParts, SignerParts, EndParts, SignedDataParts, ContentInfoParts, TokenParts, kept, NamedParts, token_named, Parts, ReadsSigned, first_fault}
use Rattle.cms_signed.proofs.Listed.{demand_ok, attribute_of, list_spelled, Listed, attributes_listed}

-- ---- values that keep the state

-- an algorithm that was judged
judged : (r : Result (AlgorithmParts × Unit {0}) CmsFault) (test : AlgorithmParts → Bool) (f : CmsFault) (σ τ : State) → (r >>= λ (x : AlgorithmParts × Unit {0}). demand (test x.0) f σ) ≡ Ok τ → σ ≡ τ
judged (Ok x) test f σ τ e = (demand_ok (test x.0) f σ τ e).1
judged (Err d) test f σ τ e = absurd cc

abbrev ValidAlgorithm : Check CmsCheck → State → ℕ → AlgorithmParts → State → Type 0
ValidAlgorithm c σ place q τ = ValidValue cms_checks (tagged 48) c (Valid cms_checks algorithm_shape) (spell {C = CmsCheck} algorithm_shape) σ place q τ

signature_kept : (σ : State) (place : ℕ) (q : AlgorithmParts) (τ : State) → ValidAlgorithm (checked_whole signature_is_hss_lms) σ place q τ → σ ≡ τ
unfolding signature_algorithm_at
signature_kept σ place q τ w =
    let v = item place 48 (spell {C = CmsCheck} algorithm_shape q) in
    ok_is {F = CmsFault} σ w.before w.header_passes ∙ (algorithm_read cms_checks w.before _ q w.after w.inside).1 ∙ judged (lift faults.Der (algorithm_of (contents v))) (λ (x : AlgorithmParts). is_hss_lms (name_of x)) faults.SignatureAlg w.after τ w.end_passes

digest_kept : (σ : State) (place : ℕ) (q : AlgorithmParts) (τ : State) → ValidAlgorithm (checked_whole digest_is_sha256) σ place q τ → σ ≡ τ
unfolding digest_algorithm_at
digest_kept σ place q τ w =
    let v = item place 48 (spell {C = CmsCheck} algorithm_shape q) in
    ok_is {F = CmsFault} σ w.before w.header_passes ∙ (algorithm_read cms_checks w.before _ q w.after w.inside).1 ∙ judged (lift faults.Der (algorithm_of (contents v))) (λ (x : AlgorithmParts). is_sha256 (name_of x)) faults.DigestAlg w.after τ w.end_passes

leaf_keeps : (tag : ℕ) (σ : State) (place : ℕ) (q : List ℕ) (τ : State) → ValidValue cms_checks (tagged tag) unchecked (Valid cms_checks unread) (spell {C = CmsCheck} unread) σ place q τ → σ ≡ τ
unfolding Valid
leaf_keeps tag σ place q τ w = (unchecked_inside cms_checks tag unread σ place q τ w).1

passed_keeps : (tag : ℕ) (taken : Bool) (σ : State) (place : ℕ) (o : Option (List ℕ)) (τ : State)
    → ValidOptional (ValidValue cms_checks (tagged tag) unchecked (Valid cms_checks unread) (spell {C = CmsCheck} unread)) taken σ place o τ → σ ≡ τ
passed_keeps tag taken σ place None τ v = v.1
passed_keeps tag taken σ place (Some q) τ v = leaf_keeps tag σ place q τ v

-- ---- from the signed attributes outwards

leaving : (p : AttributesParts) (σ τ : State) → σ ≡ τ → Listed p σ → Listed p τ
leaving p σ τ e l = subst (λ (s : State). Listed p s) e l

signature_listed : (place : ℕ) (p : SignatureParts) (τ : State) → Valid cms_checks signature_info start place p τ → Listed p.0 τ
unfolding Valid
signature_listed place p τ v =
    let within = unchecked_inside cms_checks 160 attributes start place p.0 v.0 v.1 in
    let algorithm : v.0 ≡ v.2.0 = signature_kept v.0 _ p.1.0 v.2.0 v.2.1 in
    let octets : v.2.0 ≡ v.2.2.0 = leaf_keeps 4 v.2.0 _ p.1.1.0 v.2.2.0 v.2.2.1 in
    let unsigned : v.2.2.0 ≡ v.2.2.2.0 = passed_keeps 161 _ v.2.2.0 _ p.1.1.1.0 v.2.2.2.0 v.2.2.2.1 in
    leaving p.0 v.0 τ (algorithm ∙ octets ∙ unsigned ∙ v.2.2.2.2) (attributes_listed within.0 p.0 v.0 within.1)

signer_listed : (σ : State) (place : ℕ) (p : SignerParts) (τ : State) → Valid cms_checks signer_info σ place p τ → Listed p.1.1.1.0 τ
unfolding Valid sid_at
signer_listed σ place p τ v =
    let w = v.2.1 in
    let fitted = demand_ok (fits v.0.version p.1.0.0) faults.SignerVersion start w.before w.header_passes in
    let sid : start ≡ v.2.0 = fitted.1 ∙ w.inside ∙ ok_is {F = CmsFault} w.after v.2.0 w.end_passes in
    let digest : v.2.0 ≡ v.2.2.0 = digest_kept v.2.0 _ p.1.1.0 v.2.2.0 v.2.2.1 in
    signature_listed _ p.1.1.1 τ (subst (λ (s : State). Valid cms_checks signature_info s _ p.1.1.1 τ) (sym (sid ∙ digest)) v.2.2.2)

end_listed : (σ : State) (place : ℕ) (p : EndParts) (τ : State) → Valid cms_checks end_of_signed_data σ place p τ → Listed p.1.1.0.0.1.1.1.0 τ
unfolding Valid
end_listed σ place p τ v =
    let w = v.2.2.1 in
    let signer = last_inside cms_checks 48 signer_info w.before _ p.1.1.0 w.after w.inside in
    leaving p.1.1.0.0.1.1.1.0 w.after τ (ok_is {F = CmsFault} w.after v.2.2.0 w.end_passes ∙ v.2.2.2) (signer_listed w.before signer.0 p.1.1.0.0 w.after signer.1)

data_listed : (σ : State) (place : ℕ) (p : SignedDataParts) (τ : State) → Valid cms_checks signed_data σ place p τ → Listed p.1.1.1.1.1.0.0.1.1.1.0 τ
unfolding Valid
data_listed σ place p τ v = end_listed v.2.2.0 _ p.1.1.1 τ v.2.2.2

info_listed : (σ : State) (place : ℕ) (p : ContentInfoParts) (τ : State) → Valid cms_checks content_info σ place p τ → Listed p.1.0.0.1.1.1.1.1.0.0.1.1.1.0 τ
unfolding Valid
info_listed σ place p τ v =
    let explicit = last_inside cms_checks 160 signed_data_in_0 v.0 _ p.1 τ v.2 in
    let within = last_inside cms_checks 48 signed_data v.0 explicit.0 p.1.0 τ explicit.1 in
    data_listed v.0 within.0 p.1.0.0 τ within.1

-- the signed attributes of a token
abbrev attributes_in : TokenParts → AttributesParts
attributes_in p = p.0.1.0.0.1.1.1.1.1.0.0.1.1.1.0

token_listed : (p : TokenParts) (τ : State) → Valid cms_checks token start 0 p τ → Listed (attributes_in p) τ
token_listed p τ v =
    let info = last_inside cms_checks 48 content_info start 0 p τ v in
    info_listed start info.0 p.0 τ info.1

-- ---- what is handed out

some_is : {A : Type 0} (x y : A) → ◌≡◌ {A = Option A} (Some x) (Some y) → x ≡ y
some_is x y e = cc

pub handed_out : (bytes : List ℕ) (s : Parts) → ReadsSigned bytes s → (list : List Attribute) × HasAttributes s list
handed_out bytes s m =
    let p = attributes_in m.parts in
    let l = token_listed m.parts m.state m.valid in
    let leaves : kept l.digest l.hash ≡ kept s.message_digest s.cert_hash = l.leaves ∙ ap (λ (n : NamedParts). n.signer.signed.attributes.state) m.named in
    let digest : l.digest ≡ s.message_digest = some_is _ _ (ap (λ (σ : State). σ.message_digest) leaves) in
    let hash : l.hash ≡ s.cert_hash = some_is _ _ (ap (λ (σ : State). σ.certificate) leaves) in
    let encoding : value 0xa0 (spell attributes p) ≡ s.attrs = ap (λ (n : NamedParts). n.signer.signed.attributes.encoding) m.named in (
      map attribute_of p.0,
      record {
        spelled = sym encoding ∙ ap (λ (text : List ℕ). value 0xa0 text) (list_spelled p);
        content_type = l.content_type;
        message_digest = l.message_digest ∙ ap (λ (d : List ℕ). one_of MessageDigest (value 0x04 d)) digest;
        certificate = l.certificate;
        signing_certificate = l.signing_certificate;
        names = subst (λ (h : Option (List ℕ)). NamesCertificate l.certificate h) hash l.names;
      },
    )

-- ---- bytes without a first fault

pub faultless_is_read : (bytes : List ℕ) → IsBytes bytes → first_fault bytes ≡ None → (s : Parts) × ReadsSigned bytes s
faultless_is_read bytes fits none =
    let m = (free_means cms_checks token start token_named (from_start bytes) fits none).1 in
    let l = token_listed m.parts m.state m.valid in
    let n = token_named m.parts m.state in
    let s : Parts = record {
      content = n.content;
      sid = n.signer.sid;
      attrs = n.signer.signed.attributes.encoding;
      message_digest = l.digest;
      cert_hash = l.hash;
      signature = n.signer.signed.signature;
    } in
    (s, record { parts = m.parts; state = m.state; valid = m.valid; spelled = m.spelled; named = ap (λ (σ : State). token_named m.parts σ) (sym l.leaves) })

-- ---- the content of bytes is bytes

bytes_first : (a b : List ℕ) → IsBytes (a ++ b) → IsBytes a
bytes_first a b fits = subst IsBytes (take_at a b (length a) refl) (IsBytes-take (length a) (a ++ b) fits)

bytes_last : (a b : List ℕ) → IsBytes (a ++ b) → IsBytes b
bytes_last a b fits = subst IsBytes (drop_at a b (length a) refl) (IsBytes-drop (length a) (a ++ b) fits)

bytes_inside : (tag : ℕ) (content rest : List ℕ) → IsBytes (value tag content ++ rest) → IsBytes content
unfolding value
bytes_inside tag content rest fits =
    bytes_last (length_octets (length content)) content (IsBytes-rest tag (length_octets (length content) ++ content) (bytes_first (tag ∷ (length_octets (length content) ++ content)) rest fits))

pub content_is_bytes : (bytes : List ℕ) (s : Parts) → IsBytes bytes → ReadsSigned bytes s → IsBytes s.content
unfolding spell
content_is_bytes bytes s fits m =
    let info = m.parts.0 in
    let within = info.1.0.0 in
    let encap = within.1.1.0 in
    let a : IsBytes (spell content_info info) = bytes_inside 48 (spell content_info info) _ (subst IsBytes m.spelled fits) in
    let b : IsBytes (spell signed_data_in_0 info.1.0) = bytes_inside 160 (spell signed_data_in_0 info.1.0) _ (bytes_last (value 6 info.0) _ a) in
    let c : IsBytes (spell signed_data within) = bytes_inside 48 (spell signed_data within) _ b in
    let d : IsBytes (spell encap_content_info encap) = bytes_inside 48 (spell encap_content_info encap) _ (bytes_last (value 49 _) _ (bytes_last (value 2 within.0) _ c)) in
    let e : IsBytes (spell octets_in_0 encap.1.0) = bytes_inside 160 (spell octets_in_0 encap.1.0) _ (bytes_last (value 6 encap.0) _ d) in
    subst IsBytes (ap (λ (n : NamedParts). n.content) m.named) (bytes_inside 4 encap.1.0.0 _ e)

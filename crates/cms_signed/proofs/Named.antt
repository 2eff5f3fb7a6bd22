-- The parts of a signed time-stamp are told apart by what is named of them.
use Rattle.std.proofs.Common.{◌≡◌, Option, Some, Result, Ok, Err, ap, ◌∙◌}
use Rattle.std.specs.Prelude.{IsOkAnd}
use Rattle.cms_signed.specs.declared.fault.CmsFault.{CmsFault}
use Rattle.cms_signed.specs.declared.token.Signed.{Signed}
use Rattle.cms_signed.specs.State.{State}
use Rattle.cms_signed.specs.Signed.{Parts, NamedParts, named, signed_seen}
use Rattle.cms_signed.specs.Inside.{named_seen}

some_is : {A : Type 0} (x y : A) → ◌≡◌ {A = Option A} (Some x) (Some y) → x ≡ y
some_is x y e = cc

state_at : NamedParts → State
state_at n = n.signer.signed.attributes.state

parts_alike : (a b : Parts) → a.content ≡ b.content → a.sid ≡ b.sid → a.attrs ≡ b.attrs → a.message_digest ≡ b.message_digest → a.cert_hash ≡ b.cert_hash → a.signature ≡ b.signature → a ≡ b
parts_alike a b content sid attrs digest cert signature =
    ap (λ x. record { content = x; sid = a.sid; attrs = a.attrs; message_digest = a.message_digest; cert_hash = a.cert_hash; signature = a.signature }) content
    ∙ ap (λ x. record { content = b.content; sid = x; attrs = a.attrs; message_digest = a.message_digest; cert_hash = a.cert_hash; signature = a.signature }) sid
    ∙ ap (λ x. record { content = b.content; sid = b.sid; attrs = x; message_digest = a.message_digest; cert_hash = a.cert_hash; signature = a.signature }) attrs
    ∙ ap (λ x. record { content = b.content; sid = b.sid; attrs = b.attrs; message_digest = x; cert_hash = a.cert_hash; signature = a.signature }) digest
    ∙ ap (λ x. record { content = b.content; sid = b.sid; attrs = b.attrs; message_digest = b.message_digest; cert_hash = x; signature = a.signature }) cert
    ∙ ap (λ x. record { content = b.content; sid = b.sid; attrs = b.attrs; message_digest = b.message_digest; cert_hash = b.cert_hash; signature = x }) signature

pub named_once : (a b : Parts) → named a ≡ named b → a ≡ b
named_once a b e = parts_alike a b
    (ap (λ (n : NamedParts). n.content) e)
    (ap (λ (n : NamedParts). n.signer.sid) e)
    (ap (λ (n : NamedParts). n.signer.signed.attributes.encoding) e)
    (some_is _ _ (ap (λ (n : NamedParts). n.signer.signed.attributes.state.message_digest) e))
    (some_is _ _ (ap (λ (n : NamedParts). n.signer.signed.attributes.state.certificate) e))
    (ap (λ (n : NamedParts). n.signer.signed.signature) e)

pub seen_once : (r : Result Signed CmsFault) (s : Parts) → IsOkAnd r (λ x. named_seen x ≡ named s) → IsOkAnd r (λ x. signed_seen x ≡ s)
seen_once (Ok x) s e = named_once (signed_seen x) s e
seen_once (Err e) s h = h

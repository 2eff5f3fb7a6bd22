-- What stands inside a value is not longer than it.
use Rattle.std.proofs.Common.{ℕ, ◌+◌, ◌<◌, ◌≤◌, eqb, List, [], ◌∷◌, ◌++◌, ◌^◌, length, arith, length-append}
use Rattle.std.proofs.lemmas.Bool.{cond_both}
use Rattle.der_values.specs.Value.{value}
use Rattle.hash_kit.specs.declared.algorithm.HashAlg.TheVariants.{Sha256}
use Rattle.hash_kit.specs.Algorithm.{oid_of}
use Rattle.hash_kit.specs.Digest.{digest_of}
use Rattle.hash_kit.proofs.Sizes.{length-digest_of}
use Rattle.der_values.proofs.Values.{value_length}
use Rattle.der_values.proofs.Lengths.{content_shorter}
use Rattle.cms_signed.specs.declared.fault.AttrKind.{AttrKind}
use Rattle.cms_signed.specs.declared.fault.AttrKind.TheVariants.{ContentType, MessageDigest, SigningCertificate}
use Rattle.cms_signed.specs.Names.{id_signed_data, id_tst_info, id_hss_lms, type_of}
use Rattle.cms_signed.specs.Text.{ToSign, algorithm_text, attribute_text, certificate_text, attributes_text, version_of, signer_contents, encap_contents, content_text, signed_data_contents, token_contents, IsSid, HasText}
use Rattle.cms_signed.specs.Inside.{HasRoom}

first_of : (a b : List ℕ) → length a ≤ length (a ++ b)
first_of a b = omega (arith, length-append a b)

last_of : (a b : List ℕ) → length b ≤ length (a ++ b)
last_of a b = omega (arith, length-append a b)

data_within : (u : ToSign) (signature : List ℕ) → length (value 0x30 (signed_data_contents u signature)) ≤ length (token_contents u signature)
data_within u signature =
    let whole = value 0x30 (signed_data_contents u signature) in
    omega (arith, content_shorter 0xa0 whole, last_of (value 0x06 id_signed_data) (value 0xa0 whole))

-- the version and the digest algorithms of a SignedData
abbrev front : List ℕ
front = value 0x02 (3 ∷ []) ++ value 0x31 (algorithm_text (oid_of Sha256))

signers_within : (u : ToSign) (signature : List ℕ) → length (value 0x30 (signer_contents u signature)) ≤ length (signed_data_contents u signature)
signers_within u signature =
    let signer = value 0x30 (signer_contents u signature) in
    omega (arith, content_shorter 0x31 signer, last_of (front ++ content_text u.content) (value 0x31 signer))

encap_within : (u : ToSign) (signature : List ℕ) → length (content_text u.content) ≤ length (signed_data_contents u signature)
encap_within u signature =
    omega (arith, last_of front (content_text u.content), first_of (front ++ content_text u.content) (value 0x31 (value 0x30 (signer_contents u signature))))

explicit_within : (content : List ℕ) → length (value 0x04 content) ≤ length (encap_contents content)
explicit_within content =
    omega (arith, content_shorter 0xa0 (value 0x04 content), last_of (value 0x06 id_tst_info) (value 0xa0 (value 0x04 content)))

signature_within : (u : ToSign) (signature : List ℕ) → length signature ≤ length (signer_contents u signature)
signature_within u signature =
    let signed = value 0x02 (version_of u.sid) ++ u.sid ++ algorithm_text (oid_of Sha256) ++ value 0xa0 (attributes_text u) ++ algorithm_text id_hss_lms in
    omega (arith, content_shorter 0x04 signature, last_of signed (value 0x04 signature))

pub has_room : (u : ToSign) (signature : List ℕ) → length (token_contents u signature) < 2 ^ 32 → HasRoom u signature
has_room u signature short =
    let whole : length (value 0x30 (signed_data_contents u signature)) < 2 ^ 32 = omega (arith, short, data_within u signature) in
    let contents : length (signed_data_contents u signature) < 2 ^ 32 = omega (arith, whole, content_shorter 0x30 (signed_data_contents u signature)) in
    let signers : length (value 0x30 (signer_contents u signature)) < 2 ^ 32 = omega (arith, contents, signers_within u signature) in
    let signer : length (signer_contents u signature) < 2 ^ 32 = omega (arith, signers, content_shorter 0x30 (signer_contents u signature)) in
    let encap : length (encap_contents u.content) < 2 ^ 32 = omega (arith, contents, encap_within u signature, content_shorter 0x30 (encap_contents u.content)) in
    let explicit : length (value 0x04 u.content) < 2 ^ 32 = omega (arith, encap, explicit_within u.content) in
    record {
      signed_data = contents;
      signers = signers;
      signer = signer;
      octets = omega (arith, signer, signature_within u signature);
      encap = encap;
      explicit = explicit;
      content = omega (arith, explicit, content_shorter 0x04 u.content);
    }

pub data_short : (u : ToSign) (signature : List ℕ) → length (token_contents u signature) < 2 ^ 32 → length (value 0x30 (signed_data_contents u signature)) < 2 ^ 32
data_short u signature short = omega (arith, short, data_within u signature)

-- ---- what short parts come to

type_length : (kind : AttrKind) → length (type_of kind) ≤ 11
type_length ContentType = omega arith
type_length MessageDigest = omega arith
type_length SigningCertificate = omega arith

attribute_length : (kind : AttrKind) (text : List ℕ) → length (attribute_text kind text) ≤ length text + 29
attribute_length kind text =
    let type = value 0x06 (type_of kind) in
    omega (arith, type_length kind, value_length 0x06 (type_of kind), value_length 0x31 text, length-append type (value 0x31 text), value_length 0x30 (type ++ value 0x31 text))

certificate_length : (hash : List ℕ) → length (certificate_text hash) ≤ length hash + 24
certificate_length hash =
    let one = value 0x04 hash in
    let two = value 0x30 one in
    let three = value 0x30 two in
    omega (arith, value_length 0x04 hash, value_length 0x30 one, value_length 0x30 two, value_length 0x30 three)

attributes_length : (u : ToSign) → length u.cert_hash ≤ 64 → length (attributes_text u) ≤ 240
attributes_length u most =
    let a = attribute_text ContentType (value 0x06 id_tst_info) in
    let b = attribute_text MessageDigest (value 0x04 (digest_of Sha256 u.content)) in
    let c = attribute_text SigningCertificate (certificate_text u.cert_hash) in
    let first : length a ≤ 46 = omega (arith, attribute_length ContentType (value 0x06 id_tst_info), value_length 0x06 id_tst_info) in
    let second : length b ≤ 67 = omega (arith, attribute_length MessageDigest (value 0x04 (digest_of Sha256 u.content)), value_length 0x04 (digest_of Sha256 u.content), length-digest_of Sha256 u.content) in
    let third : length c ≤ 117 = omega (arith, attribute_length SigningCertificate (certificate_text u.cert_hash), certificate_length u.cert_hash, most) in
    omega (arith, first, second, third, length-append a b, length-append (a ++ b) c)

algorithm_length : (oid : List ℕ) → length (algorithm_text oid) ≤ length oid + 12
algorithm_length oid = omega (arith, value_length 0x06 oid, value_length 0x30 (value 0x06 oid))

version_length : (sid : List ℕ) → length (version_of sid) ≤ 1
version_length [] = omega arith
version_length (tag ∷ rest) = cond_both (eqb tag 0x30) (1 ∷ []) (3 ∷ []) (λ (l : List ℕ). length l ≤ 1) (λ e. omega arith) (λ e. omega arith)

signer_length : (u : ToSign) (signature : List ℕ) → length u.cert_hash ≤ 64 → length (signer_contents u signature) ≤ length u.sid + length signature + 310
signer_length u signature most =
    let a = value 0x02 (version_of u.sid) in
    let b = algorithm_text (oid_of Sha256) in
    let c = value 0xa0 (attributes_text u) in
    let d = algorithm_text id_hss_lms in
    let e = value 0x04 signature in
    let version : length a ≤ 7 = omega (arith, version_length u.sid, value_length 0x02 (version_of u.sid)) in
    let digest : length b ≤ 21 = omega (arith, algorithm_length (oid_of Sha256)) in
    let attributes : length c ≤ 246 = omega (arith, attributes_length u most, value_length 0xa0 (attributes_text u)) in
    let algorithm : length d ≤ 23 = omega (arith, algorithm_length id_hss_lms) in
    let octets : length e ≤ length signature + 6 = value_length 0x04 signature in
    omega (arith, version, digest, attributes, algorithm, octets, length-append a u.sid, length-append (a ++ u.sid) b, length-append (a ++ u.sid ++ b) c, length-append (a ++ u.sid ++ b ++ c) d, length-append (a ++ u.sid ++ b ++ c ++ d) e)

content_length : (content : List ℕ) → length (content_text content) ≤ length content + 35
content_length content =
    let a = value 0x06 id_tst_info in
    let b = value 0xa0 (value 0x04 content) in
    omega (arith, value_length 0x06 id_tst_info, value_length 0x04 content, value_length 0xa0 (value 0x04 content), length-append a b, value_length 0x30 (a ++ b))

pub token_length : (u : ToSign) (signature : List ℕ) → length u.cert_hash ≤ 64 → length (token_contents u signature) ≤ length u.content + length u.sid + length signature + 512
token_length u signature most =
    let signer = value 0x30 (signer_contents u signature) in
    let set = value 0x31 signer in
    let inner = signed_data_contents u signature in
    let front_is : length front ≤ 34 = omega (arith, algorithm_length (oid_of Sha256), value_length 0x02 (3 ∷ []), value_length 0x31 (algorithm_text (oid_of Sha256)), length-append (value 0x02 (3 ∷ [])) (value 0x31 (algorithm_text (oid_of Sha256)))) in
    let set_is : length set ≤ length u.sid + length signature + 322 = omega (arith, signer_length u signature most, value_length 0x30 (signer_contents u signature), value_length 0x31 signer) in
    let inner_is : length inner ≤ length u.content + length u.sid + length signature + 391 = omega (arith, front_is, set_is, content_length u.content, length-append front (content_text u.content), length-append (front ++ content_text u.content) set) in
    let name = value 0x06 id_signed_data in
    omega (arith, inner_is, value_length 0x30 inner, value_length 0xa0 (value 0x30 inner), value_length 0x06 id_signed_data, length-append name (value 0xa0 (value 0x30 inner)))

pub short_has_text : (u : ToSign) (signature : List ℕ) → IsSid u.sid → 24 ≤ length u.cert_hash → length u.cert_hash ≤ 64
    → length u.content + length u.sid + length signature + 512 < 2 ^ 32 → HasText u signature
short_has_text u signature sid least most short = record { sid = sid; ascending = least; short = omega (arith, token_length u signature most, short) }

-- A written token is read again.
use Rattle.std.proofs.Common.{◌≡◌, ◌≢◌, ◌∙◌, ℕ, ◌<◌, ◌≤◌, ◌%◌, ◌^◌, ◌⊎◌, inl, inr, false, List, [], ◌∷◌, ◌++◌, length, Some, None, Ok, refl, sym, ap, arith, length-append, append_assoc}
use Rattle.std.proofs.lemmas.List.{append-nil}
use Rattle.hash_kit.specs.declared.algorithm.HashAlg.TheVariants.{Sha256}
use Rattle.hash_kit.specs.Algorithm.{oid_of as algorithm_oid}
use Rattle.hash_kit.specs.Digest.{digest_of}
use Rattle.der_values.specs.Value.{value}
use Rattle.der_values.specs.Typed.{integer_of, oid_of}
use Rattle.der_values.specs.Shape.{Shape, any_tag, tagged, unchecked, checked, checked_whole, nothing_more, unread, required, optional, spell}
use Rattle.der_values.specs.Reading.{at_header, starts}
use Rattle.der_values.specs.Grammar.{ValidValue, Valid}
use Rattle.der_values.specs.Algorithm.{AlgorithmParts, plain, algorithm_shape, algorithm_of}
use Rattle.der_values.proofs.Again.{again}
use Rattle.der_values.proofs.Written.{item, algorithm_valid}
use Rattle.cms_signed.specs.Names.{id_signed_data, id_tst_info, id_hss_lms}
use Rattle.cms_signed.specs.State.{State, start}
use Rattle.cms_signed.specs.Checks.{CmsCheck, cms_checks, content_is_signed_data, version_is_3, content_is_tst_info, one_signer, version_kept, version_fits, digest_is_sha256, signature_is_hss_lms, signed_data_at, version_at, tst_info_at, one_signer_at, signer_version_at, sid_at, digest_algorithm_at, signature_algorithm_at, values_shape}
use Rattle.cms_signed.specs.Attributes.{attributes}
use Rattle.cms_signed.specs.Signed.{algorithms, octets_in_0, encap_content_info, signature_info, signer_info, signer_infos, end_of_signed_data, signed_data, signed_data_in_0, content_info, token, ContentParts, SignatureParts, SignerParts, SignersParts, SignedDataParts, ContentInfoParts, kept, token_named, named, ReadsSigned}
use Rattle.cms_signed.specs.Text.{ToSign, algorithm_text, version_of, signer_contents, encap_contents, signed_data_contents, token_contents, token_text, written, HasText}
use Rattle.der_values.proofs.Lengths.{content_shorter}
use Rattle.der_values.proofs.Anywhere.{Anywhere, AnyValue, PassesHeader, PassesEnd, nothing_valid, value_anywhere, required_valid, absent_valid, leaf_anywhere, repeated_valid}
use Rattle.cms_signed.proofs.AttributesWritten.{written_attributes, attributes_spelled, attributes_valid}

-- ---- the parts

abbrev alone : List ℕ → AlgorithmParts
alone oid = (oid, (None, tt))

abbrev sha256 : List ℕ
sha256 = algorithm_oid Sha256

abbrev signature_parts : ToSign → List ℕ → SignatureParts
signature_parts u signature = (written_attributes u, (alone id_hss_lms, (signature, (None, tt))))

abbrev signer_parts : ToSign → List ℕ → ℕ × List ℕ → SignerParts
signer_parts u signature sid = (version_of u.sid, (sid, (alone sha256, signature_parts u signature)))

abbrev content_parts : List ℕ → ContentParts
content_parts content = (id_tst_info, ((content, tt), tt))

abbrev signed_data_parts : ToSign → List ℕ → ℕ × List ℕ → SignedDataParts
signed_data_parts u signature sid = (3 ∷ [], ((alone sha256 ∷ [], tt), (content_parts u.content, (None, (None, ((signer_parts u signature sid, tt), tt))))))

abbrev content_info_parts : ToSign → List ℕ → ℕ × List ℕ → ContentInfoParts
content_info_parts u signature sid = (id_signed_data, ((signed_data_parts u signature sid, tt), tt))

-- ---- their texts

algorithms_spelled : spell algorithms (alone sha256 ∷ [], tt) ≡ algorithm_text sha256
unfolding spell
algorithms_spelled = simp append-nil refl

content_spelled : (content : List ℕ) → spell encap_content_info (content_parts content) ≡ encap_contents content
unfolding spell
content_spelled content = simp append-nil refl

signature_spelled : (u : ToSign) (signature : List ℕ) → spell signature_info (signature_parts u signature) ≡ value 160 (spell attributes (written_attributes u)) ++ (algorithm_text id_hss_lms ++ value 4 signature)
unfolding spell
signature_spelled u signature = simp append-nil refl

signer_front : (u : ToSign) (signature : List ℕ) (tag : ℕ) (content : List ℕ) → spell signer_info (signer_parts u signature (tag, content)) ≡ value 2 (version_of u.sid) ++ (value tag content ++ (algorithm_text sha256 ++ spell signature_info (signature_parts u signature)))
unfolding spell
signer_front u signature tag content = simp append-nil refl

signer_spelled : (u : ToSign) (signature : List ℕ) (tag : ℕ) (content : List ℕ) → u.sid ≡ value tag content → spell signer_info (signer_parts u signature (tag, content)) ≡ signer_contents u signature
signer_spelled u signature tag content is = signer_front u signature tag content ∙ rw (signature_spelled u signature, attributes_spelled u, ← is) (simp append_assoc refl)

signed_data_front : (u : ToSign) (signature : List ℕ) (sid : ℕ × List ℕ) → spell signed_data (signed_data_parts u signature sid)
    ≡ value 2 (3 ∷ []) ++ (value 49 (spell algorithms (alone sha256 ∷ [], tt)) ++ (value 48 (spell encap_content_info (content_parts u.content)) ++ value 49 (value 48 (spell signer_info (signer_parts u signature sid)))))
unfolding spell
signed_data_front u signature sid = simp append-nil refl

signed_data_spelled : (u : ToSign) (signature : List ℕ) (tag : ℕ) (content : List ℕ) → u.sid ≡ value tag content → spell signed_data (signed_data_parts u signature (tag, content)) ≡ signed_data_contents u signature
signed_data_spelled u signature tag content is = signed_data_front u signature (tag, content) ∙ rw (algorithms_spelled, content_spelled u.content, signer_spelled u signature tag content is) (simp append_assoc refl)

content_info_front : (u : ToSign) (signature : List ℕ) (sid : ℕ × List ℕ) → spell content_info (content_info_parts u signature sid) ≡ value 6 id_signed_data ++ value 160 (value 48 (spell signed_data (signed_data_parts u signature sid)))
unfolding spell
content_info_front u signature sid = simp append-nil refl

content_info_spelled : (u : ToSign) (signature : List ℕ) (tag : ℕ) (content : List ℕ) → u.sid ≡ value tag content → spell content_info (content_info_parts u signature (tag, content)) ≡ token_contents u signature
content_info_spelled u signature tag content is = content_info_front u signature (tag, content) ∙ rw (signed_data_spelled u signature tag content is) refl

token_front : (p : ContentInfoParts) → spell token (p, tt) ≡ value 48 (spell content_info p)
unfolding spell
token_front p = simp append-nil refl

nothing_behind : spell {C = CmsCheck} nothing_more tt ≡ []
unfolding spell
nothing_behind = refl

nothing_starts : starts (tagged 161) (spell {C = CmsCheck} nothing_more tt) ≡ false
unfolding spell
nothing_starts = refl

-- ---- algorithms

abbrev is_oid : List ℕ → Type 0
is_oid oid = (place : ℕ) → oid_of (item place 6 oid) ≡ Ok oid

sha256_is_oid : is_oid sha256
unfolding oid_of
sha256_is_oid place = refl

hss_lms_is_oid : is_oid id_hss_lms
unfolding oid_of
hss_lms_is_oid place = refl

algorithm_read : (oid : List ℕ) (place : ℕ) → length oid < 2 ^ 32 → is_oid oid → algorithm_of (record { place = place; left = spell {C = CmsCheck} algorithm_shape (alone oid) }) ≡ Ok (alone oid, tt)
unfolding algorithm_of spell
algorithm_read oid place short is = again plain algorithm_shape tt place (alone oid) tt (algorithm_valid plain tt place oid short (is _))

algorithm_anywhere : (oid : List ℕ) (σ : State) → length oid < 2 ^ 32 → is_oid oid → Anywhere cms_checks algorithm_shape σ (alone oid) σ
algorithm_anywhere oid σ short is fits place = algorithm_valid cms_checks σ place oid short (is _)

judged_digest : (σ : State) → PassesEnd cms_checks 48 (checked_whole digest_is_sha256) σ (spell {C = CmsCheck} algorithm_shape (alone sha256)) σ
unfolding digest_algorithm_at
judged_digest σ place = rw (algorithm_read sha256 _ (omega arith) sha256_is_oid) refl

judged_signature : (σ : State) → PassesEnd cms_checks 48 (checked_whole signature_is_hss_lms) σ (spell {C = CmsCheck} algorithm_shape (alone id_hss_lms)) σ
unfolding signature_algorithm_at
judged_signature σ place = rw (algorithm_read id_hss_lms _ (omega arith) hss_lms_is_oid) refl

digest_algorithm_value : (σ : State) → AnyValue cms_checks 48 (checked_whole digest_is_sha256) algorithm_shape σ (alone sha256) σ
digest_algorithm_value σ = value_anywhere cms_checks 48 (checked_whole digest_is_sha256) algorithm_shape σ σ σ σ (alone sha256) (λ e. omega arith) (λ place. refl) (algorithm_anywhere sha256 σ (omega arith) sha256_is_oid) (judged_digest σ)

signature_algorithm_value : (σ : State) → AnyValue cms_checks 48 (checked_whole signature_is_hss_lms) algorithm_shape σ (alone id_hss_lms) σ
signature_algorithm_value σ = value_anywhere cms_checks 48 (checked_whole signature_is_hss_lms) algorithm_shape σ σ σ σ (alone id_hss_lms) (λ e. omega arith) (λ place. refl) (algorithm_anywhere id_hss_lms σ (omega arith) hss_lms_is_oid) (judged_signature σ)

algorithms_valid : Anywhere cms_checks algorithms start (alone sha256 ∷ [], tt) start
algorithms_valid = repeated_valid cms_checks 48 unchecked algorithm_shape nothing_more start start start (alone sha256 ∷ []) tt
    (start, value_anywhere cms_checks 48 unchecked algorithm_shape start start start start (alone sha256) (λ e. omega arith) (λ place. refl) (algorithm_anywhere sha256 start (omega arith) sha256_is_oid) (λ place. refl), refl)
    nothing_behind
    (nothing_valid cms_checks start)

-- ---- the content

names_content : PassesHeader cms_checks 6 (checked content_is_tst_info) start id_tst_info start
unfolding tst_info_at oid_of
names_content place = refl

octets_valid : (content : List ℕ) → Anywhere cms_checks octets_in_0 start (content, tt) start
octets_valid content = required_valid cms_checks 4 unchecked unread nothing_more start start start content tt
    (leaf_anywhere cms_checks 4 unchecked start start start content (λ e. omega arith) (λ place. refl) (λ place. refl))
    (nothing_valid cms_checks start)

content_valid : (content : List ℕ) → Anywhere cms_checks encap_content_info start (content_parts content) start
content_valid content =
    required_valid cms_checks 6 (checked content_is_tst_info) unread _ start start start id_tst_info ((content, tt), tt)
    (leaf_anywhere cms_checks 6 (checked content_is_tst_info) start start start id_tst_info (λ e. omega arith) names_content (λ place. refl))
    (required_valid cms_checks 160 unchecked octets_in_0 nothing_more start start start (content, tt) tt
    (value_anywhere cms_checks 160 unchecked octets_in_0 start start start start (content, tt) (λ e. omega arith) (λ place. refl) (octets_valid content) (λ place. refl))
    (nothing_valid cms_checks start))

-- ---- the signer

abbrev at_version : List ℕ → State
at_version version = record start { version = version }

version_passes : (tag : ℕ) (content : List ℕ) → (tag ≡ 0x30) ⊎ (tag ≡ 0x80) → PassesHeader cms_checks 2 (checked version_kept) start (version_of (value tag content)) (at_version (version_of (value tag content)))
unfolding value signer_version_at integer_of
version_passes tag content (inl e) place = rw e refl
version_passes tag content (inr e) place = rw e refl

sid_passes : (tag : ℕ) (content : List ℕ) → (tag ≡ 0x30) ⊎ (tag ≡ 0x80) → (place : ℕ) → at_header cms_checks (checked version_fits) (at_version (version_of (value tag content))) (item place tag content) ≡ Ok start
unfolding value sid_at
sid_passes tag content (inl e) place = rw e refl
sid_passes tag content (inr e) place = rw e refl

signature_valid : (u : ToSign) (signature : List ℕ) → 24 ≤ length u.cert_hash → length u.cert_hash ≤ 64
    → Anywhere cms_checks signature_info start (signature_parts u signature) (kept (digest_of Sha256 u.content) (Some u.cert_hash))
signature_valid u signature least most =
    let τ = kept (digest_of Sha256 u.content) (Some u.cert_hash) in
    required_valid cms_checks 160 unchecked attributes _ start τ τ (written_attributes u) (alone id_hss_lms, (signature, (None, tt)))
    (value_anywhere cms_checks 160 unchecked attributes start start τ τ (written_attributes u) (λ e. omega arith) (λ place. refl) (attributes_valid u least most) (λ place. refl))
    (required_valid cms_checks 48 (checked_whole signature_is_hss_lms) algorithm_shape _ τ τ τ (alone id_hss_lms) (signature, (None, tt))
    (signature_algorithm_value τ)
    (required_valid cms_checks 4 unchecked unread _ τ τ τ signature (None, tt)
    (leaf_anywhere cms_checks 4 unchecked τ τ τ signature (λ e. omega arith) (λ place. refl) (λ place. refl))
    (absent_valid cms_checks (tagged 161) unchecked unread nothing_more τ τ tt nothing_starts (nothing_valid cms_checks τ))))

abbrev behind_sid : Shape CmsCheck
behind_sid = required (tagged 48) (checked_whole digest_is_sha256) algorithm_shape signature_info

-- the signer's identifier, which has one of two tags, and what follows it
sid_valid : (version : List ℕ) (tag : ℕ) (content : List ℕ) (τ : State) (q : AlgorithmParts × SignatureParts) → tag % 32 ≢ 31 → length content < 2 ^ 32
    → ((place : ℕ) → at_header cms_checks (checked version_fits) (at_version version) (item place tag content) ≡ Ok start)
    → Anywhere cms_checks behind_sid start q τ → Anywhere cms_checks (required any_tag (checked version_fits) unread behind_sid) (at_version version) ((tag, content), q) τ
unfolding Valid spell
sid_valid version tag content τ q low few passes more short place =
    let joined = length-append (value tag content) (spell behind_sid q) in
    (start, record { before = start; after = start; low_tag = low; short = few; header_passes = passes place; inside = refl; end_passes = refl }, more (omega (arith, short, joined)) _)

module _ (u : ToSign) (signature : List ℕ) (tag : ℕ) (content : List ℕ) (known : (tag ≡ 0x30) ⊎ (tag ≡ 0x80)) (is : u.sid ≡ value tag content)
    (low : tag % 32 ≢ 31) (few : length content < 2 ^ 32) (least : 24 ≤ length u.cert_hash) (most : length u.cert_hash ≤ 64) where
  abbrev end : State
  end = kept (digest_of Sha256 u.content) (Some u.cert_hash)

  abbrev sid : ℕ × List ℕ
  sid = (tag, content)

  signer_valid : Anywhere cms_checks signer_info start (signer_parts u signature sid) end
  signer_valid =
      let version = version_of u.sid in
      let version_is : version ≡ version_of (value tag content) = ap version_of is in
      required_valid cms_checks 2 (checked version_kept) unread _ start (at_version version) end version (sid, (alone sha256, signature_parts u signature))
      (leaf_anywhere cms_checks 2 (checked version_kept) start (at_version version) (at_version version) version (λ e. omega arith) (rw version_is (version_passes tag content known)) (λ place. refl))
      (sid_valid version tag content end (alone sha256, signature_parts u signature) low few (rw version_is (sid_passes tag content known))
      (required_valid cms_checks 48 (checked_whole digest_is_sha256) algorithm_shape signature_info start start end (alone sha256) (signature_parts u signature)
      (digest_algorithm_value start)
      (signature_valid u signature least most)))

  abbrev one : List (ℕ × List ℕ)
  one = (48, spell signer_info (signer_parts u signature sid)) ∷ []

  signers_spelled : spell values_shape (one, tt) ≡ spell signer_infos (signer_parts u signature sid, tt)
  unfolding spell
  signers_spelled = simp append-nil refl

  one_valid : length (spell signer_info (signer_parts u signature sid)) < 2 ^ 32 → (place : ℕ) → Valid plain values_shape tt place (one, tt) tt
  unfolding Valid spell
  one_valid short place = (tt, (tt, record { before = tt; after = tt; low_tag = λ e. omega arith; short = short; header_passes = refl; inside = refl; end_passes = refl }, refl), refl, refl)

  counted : length (spell signer_info (signer_parts u signature sid)) < 2 ^ 32 → PassesHeader cms_checks 49 (checked one_signer) start (spell signer_infos (signer_parts u signature sid, tt)) start
  unfolding one_signer_at
  counted short place = rw (← signers_spelled, again plain values_shape tt _ (one, tt) tt (one_valid short _)) refl

  signers_valid : Anywhere cms_checks signer_infos start (signer_parts u signature sid, tt) end
  signers_valid = required_valid cms_checks 48 unchecked signer_info nothing_more start end end (signer_parts u signature sid) tt
      (value_anywhere cms_checks 48 unchecked signer_info start start end end (signer_parts u signature sid) (λ e. omega arith) (λ place. refl) signer_valid (λ place. refl))
      (nothing_valid cms_checks end)

  signer_short : length (spell signer_infos (signer_parts u signature sid, tt)) < 2 ^ 32 → length (spell signer_info (signer_parts u signature sid)) < 2 ^ 32
  unfolding spell
  signer_short short =
      let inner = spell signer_info (signer_parts u signature sid) in
      omega (arith, short, content_shorter 48 inner, length-append (value 48 inner) [])

  set_valid : AnyValue cms_checks 49 (checked one_signer) signer_infos start (signer_parts u signature sid, tt) end
  set_valid short place = record {
    before = start;
    after = end;
    low_tag = λ e. omega arith;
    short = short;
    header_passes = counted (signer_short short) place;
    inside = signers_valid short _;
    end_passes = refl;
  }

  -- no certificates, no revocation lists
  abbrev set_parts : SignersParts × Unit {0}
  set_parts = ((signer_parts u signature sid, tt), tt)

  no_crls : starts (tagged 161) (spell {C = CmsCheck} (required (tagged 49) (checked one_signer) signer_infos nothing_more) set_parts) ≡ false
  unfolding spell value
  no_crls = refl

  no_certificates : starts (tagged 160) (spell {C = CmsCheck} (optional (tagged 161) unchecked unread (required (tagged 49) (checked one_signer) signer_infos nothing_more)) (None, set_parts)) ≡ false
  unfolding spell value
  no_certificates = refl

  end_of_signed_data_valid : Anywhere cms_checks end_of_signed_data start (None, (None, set_parts)) end
  end_of_signed_data_valid =
      absent_valid cms_checks (tagged 160) unchecked unread _ start end (None, set_parts) no_certificates
      (absent_valid cms_checks (tagged 161) unchecked unread _ start end set_parts no_crls
      (required_valid cms_checks 49 (checked one_signer) signer_infos nothing_more start end end (signer_parts u signature sid, tt) tt set_valid (nothing_valid cms_checks end)))

  -- ---- the token

  version_3_passes : PassesHeader cms_checks 2 (checked version_is_3) start (3 ∷ []) start
  unfolding version_at integer_of
  version_3_passes place = refl

  signed_data_valid : Anywhere cms_checks signed_data start (signed_data_parts u signature sid) end
  signed_data_valid =
      required_valid cms_checks 2 (checked version_is_3) unread _ start start end (3 ∷ []) ((alone sha256 ∷ [], tt), (content_parts u.content, (None, (None, set_parts))))
      (leaf_anywhere cms_checks 2 (checked version_is_3) start start start (3 ∷ []) (λ e. omega arith) version_3_passes (λ place. refl))
      (required_valid cms_checks 49 unchecked algorithms _ start start end (alone sha256 ∷ [], tt) (content_parts u.content, (None, (None, set_parts)))
      (value_anywhere cms_checks 49 unchecked algorithms start start start start (alone sha256 ∷ [], tt) (λ e. omega arith) (λ place. refl) algorithms_valid (λ place. refl))
      (required_valid cms_checks 48 unchecked encap_content_info end_of_signed_data start start end (content_parts u.content) (None, (None, set_parts))
      (value_anywhere cms_checks 48 unchecked encap_content_info start start start start (content_parts u.content) (λ e. omega arith) (λ place. refl) (content_valid u.content) (λ place. refl))
      end_of_signed_data_valid))

  explicit_valid : Anywhere cms_checks signed_data_in_0 start (signed_data_parts u signature sid, tt) end
  explicit_valid =
      required_valid cms_checks 48 unchecked signed_data nothing_more start end end (signed_data_parts u signature sid) tt
      (value_anywhere cms_checks 48 unchecked signed_data start start end end (signed_data_parts u signature sid) (λ e. omega arith) (λ place. refl) signed_data_valid (λ place. refl))
      (nothing_valid cms_checks end)

  type_passes : PassesHeader cms_checks 6 (checked content_is_signed_data) start id_signed_data start
  unfolding signed_data_at oid_of
  type_passes place = refl

  content_info_valid : Anywhere cms_checks content_info start (content_info_parts u signature sid) end
  content_info_valid =
      required_valid cms_checks 6 (checked content_is_signed_data) unread _ start start end id_signed_data ((signed_data_parts u signature sid, tt), tt)
      (leaf_anywhere cms_checks 6 (checked content_is_signed_data) start start start id_signed_data (λ e. omega arith) type_passes (λ place. refl))
      (required_valid cms_checks 160 unchecked signed_data_in_0 nothing_more start end end (signed_data_parts u signature sid, tt) tt
      (value_anywhere cms_checks 160 unchecked signed_data_in_0 start start end end (signed_data_parts u signature sid, tt) (λ e. omega arith) (λ place. refl) explicit_valid (λ place. refl))
      (nothing_valid cms_checks end))

  token_valid : length (token_contents u signature) < 2 ^ 32 → ValidValue cms_checks (tagged 48) unchecked (Valid cms_checks content_info) (spell content_info) start 0 (content_info_parts u signature sid) end
  token_valid short =
      let fits : length (spell content_info (content_info_parts u signature sid)) < 2 ^ 32 = rw (content_info_spelled u signature tag content is) short in
      value_anywhere cms_checks 48 unchecked content_info start start end end (content_info_parts u signature sid) (λ e. omega arith) (λ place. refl) content_info_valid (λ place. refl) fits 0

  named_parts : token_named (content_info_parts u signature sid, tt) end ≡ named (written u signature)
  named_parts = rw (attributes_spelled u, is) refl

  reads : length (token_contents u signature) < 2 ^ 32 → ReadsSigned (token_text u signature) (written u signature)
  unfolding Valid
  reads short = record {
    parts = (content_info_parts u signature sid, tt);
    state = end;
    valid = (end, token_valid short, refl);
    spelled = sym (token_front (content_info_parts u signature sid) ∙ ap (value 48) (content_info_spelled u signature tag content is));
    named = named_parts;
  }

pub is_read_again : (u : ToSign) (signature : List ℕ) → HasText u signature → length u.cert_hash ≤ 64 → ReadsSigned (token_text u signature) (written u signature)
is_read_again u signature has most =
    let s = has.sid in
    reads u signature s.tag s.content s.known s.spells.is s.spells.low_tag s.spells.short has.ascending most has.short

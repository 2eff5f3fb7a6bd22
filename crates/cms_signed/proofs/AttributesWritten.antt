-- The written attributes are read again.
use Rattle.std.proofs.Common.{◌≡◌, ◌∙◌, ℕ, ◌+◌, ◌≤◌, inl, inr, true, false, List, [], ◌∷◌, ◌++◌, length, Some, None, Ok, refl, arith, length-append, append_assoc}
use Rattle.std.proofs.lemmas.List.{append-nil}
use Rattle.std.specs.Ordering.{is_gt}
use Rattle.hash_kit.specs.declared.algorithm.HashAlg.TheVariants.{Sha256}
use Rattle.hash_kit.specs.Digest.{digest_of}
use Rattle.hash_kit.proofs.Sizes.{length-digest_of}
use Rattle.der_values.specs.Value.{extra, length_octets, value}
use Rattle.der_values.specs.Typed.{oid_of}
use Rattle.der_values.specs.Order.{set_order_of}
use Rattle.der_values.specs.Shape.{tagged, unchecked, checked, checked_whole, nothing_more, unread, required, checkpoint, spell}
use Rattle.der_values.specs.Reading.{starts}
use Rattle.der_values.specs.Algorithm.{algorithm_shape}
use Rattle.der_values.proofs.Padded.{empty_is_least}
use Rattle.cms_signed.specs.declared.fault.AttrKind.{AttrKind}
use Rattle.cms_signed.specs.declared.fault.AttrKind.TheVariants.{ContentType, MessageDigest, SigningCertificate}
use Rattle.cms_signed.specs.Names.{id_tst_info, type_of}
use Rattle.cms_signed.specs.State.{State, start, has_come}
use Rattle.cms_signed.specs.Checks.{CmsCheck, cms_checks, in_order, none_of_its_kind_before, is_content_type, is_message_digest, is_signing_certificate, names_tst_info, digest_kept, hash_judged, certificate_kept, none_missing, attribute_at, type_at, content_type_at, tst_info_at, missing_of}
use Rattle.cms_signed.specs.Attributes.{certificate_id, certificate_ids, signing_certificate, attribute_values, attribute, attributes, AttributeParts, AttributesParts, ValuesParts, SigningCertificateParts}
use Rattle.cms_signed.specs.Signed.{kept}
use Rattle.cms_signed.specs.Text.{ToSign, certificate_text, attributes_text}
use Rattle.der_values.proofs.Anywhere.{Anywhere, AnyValue, PassesHeader, nothing_valid, unread_valid, value_anywhere, required_valid, absent_valid, checkpoint_valid, first_valid, second_valid, leaf_anywhere, repeated_valid}
use Rattle.cms_signed.proofs.AttributeOrder.{short_value, short_length, is_above, is_not_below}

-- ---- the parts, and their texts

abbrev content_type_parts : AttributeParts
content_type_parts = (type_of ContentType, (inl (id_tst_info, tt), tt))

abbrev digest_parts : List ℕ → AttributeParts
digest_parts digest = (type_of MessageDigest, (inr (inl (digest, tt)), tt))

abbrev certificate_parts : List ℕ → AttributeParts
certificate_parts hash = (type_of SigningCertificate, (inr (inr (inl (((((None, (hash, [])), []), []), tt)))), tt))

abbrev pub written_attributes : ToSign → AttributesParts
written_attributes u = (content_type_parts ∷ digest_parts (digest_of Sha256 u.content) ∷ certificate_parts u.cert_hash ∷ [], tt)

content_type_inner : spell attribute content_type_parts ≡ value 6 (type_of ContentType) ++ value 49 (value 6 id_tst_info)
unfolding spell
content_type_inner = simp append-nil refl

digest_inner : (digest : List ℕ) → spell attribute (digest_parts digest) ≡ value 6 (type_of MessageDigest) ++ value 49 (value 4 digest)
unfolding spell
digest_inner digest = simp append-nil refl

certificate_inner : (hash : List ℕ) → spell attribute (certificate_parts hash) ≡ value 6 (type_of SigningCertificate) ++ value 49 (certificate_text hash)
unfolding spell
certificate_inner hash = simp append-nil refl

three_spelled : (u : ToSign) → spell attributes (written_attributes u) ≡ value 48 (spell attribute content_type_parts) ++ value 48 (spell attribute (digest_parts (digest_of Sha256 u.content))) ++ value 48 (spell attribute (certificate_parts u.cert_hash))
unfolding spell
three_spelled u = simp (append-nil, append_assoc) refl

pub attributes_spelled : (u : ToSign) → spell attributes (written_attributes u) ≡ attributes_text u
attributes_spelled u = three_spelled u ∙ rw (content_type_inner, digest_inner (digest_of Sha256 u.content), certificate_inner u.cert_hash) refl

-- ---- the states: after the header, the type and the value of each attribute

abbrev headed : State → List ℕ → State
headed σ text = record σ { before = text }

abbrev typed : State → AttrKind → State
typed σ kind = record σ { kind = Some kind }

abbrev after_content_type : State
after_content_type = record (typed (headed start (value 48 (spell attribute content_type_parts))) ContentType) { content_type = true }

abbrev after_digest : List ℕ → State
after_digest digest = record (typed (headed after_content_type (value 48 (spell attribute (digest_parts digest)))) MessageDigest) { message_digest = Some digest }

abbrev after_certificate : List ℕ → List ℕ → State
after_certificate digest hash = record (typed (headed (after_digest digest) (value 48 (spell attribute (certificate_parts hash)))) SigningCertificate) { certificate = Some (Some hash) }

-- ---- the values of the attributes

names_content : (σ : State) → PassesHeader cms_checks 6 (checked names_tst_info) σ id_tst_info (record σ { content_type = true })
unfolding content_type_at tst_info_at oid_of
names_content σ place = refl

content_type_value : (σ : State) → σ.kind ≡ Some ContentType → Anywhere cms_checks attribute_values σ (inl (id_tst_info, tt)) (record σ { content_type = true })
content_type_value σ is =
    let τ = record σ { content_type = true } in
    first_valid cms_checks is_content_type _ _ σ τ (id_tst_info, tt) (rw is refl)
    (required_valid cms_checks 6 (checked names_tst_info) unread nothing_more σ τ τ id_tst_info tt
    (leaf_anywhere cms_checks 6 (checked names_tst_info) σ τ τ id_tst_info (λ e. omega arith) (names_content σ) (λ place. refl))
    (nothing_valid cms_checks τ))

digest_value : (σ : State) (digest : List ℕ) → σ.kind ≡ Some MessageDigest → Anywhere cms_checks attribute_values σ (inr (inl (digest, tt))) (record σ { message_digest = Some digest })
digest_value σ digest is =
    let τ = record σ { message_digest = Some digest } in
    second_valid cms_checks is_content_type _ _ σ τ (inl (digest, tt)) (rw is refl)
    (first_valid cms_checks is_message_digest _ _ σ τ (digest, tt) (rw is refl)
    (required_valid cms_checks 4 (checked digest_kept) unread nothing_more σ τ τ digest tt
    (leaf_anywhere cms_checks 4 (checked digest_kept) σ τ τ digest (λ e. omega arith) (λ place. refl) (λ place. refl))
    (nothing_valid cms_checks τ)))

abbrev with_hash : State → List ℕ → State
with_hash σ hash = record σ { certificate = Some (Some hash) }

absent : (hash : List ℕ) → starts (tagged 48) (spell {C = CmsCheck} (required (tagged 4) (checked certificate_kept) unread unread) (hash, [])) ≡ false
unfolding spell value
absent hash = refl

keeps_hash : (σ : State) (hash : List ℕ) → σ.by_sha256 ≡ true → PassesHeader cms_checks 4 (checked certificate_kept) σ hash (with_hash σ hash)
keeps_hash σ hash by place = rw by refl

certificate_id_valid : (σ : State) (hash : List ℕ) → σ.by_sha256 ≡ true → Anywhere cms_checks certificate_id σ (None, (hash, [])) (with_hash σ hash)
certificate_id_valid σ hash by =
    let τ = with_hash σ hash in
    absent_valid cms_checks (tagged 48) (checked_whole hash_judged) algorithm_shape _ σ τ (hash, []) (absent hash)
    (required_valid cms_checks 4 (checked certificate_kept) unread unread σ τ τ hash []
    (leaf_anywhere cms_checks 4 (checked certificate_kept) σ τ τ hash (λ e. omega arith) (keeps_hash σ hash by) (λ place. refl))
    (unread_valid cms_checks τ []))

certificate_ids_valid : (σ : State) (hash : List ℕ) → σ.by_sha256 ≡ true → Anywhere cms_checks certificate_ids σ ((None, (hash, [])), []) (with_hash σ hash)
certificate_ids_valid σ hash by =
    let τ = with_hash σ hash in
    required_valid cms_checks 48 unchecked certificate_id unread σ τ τ (None, (hash, [])) []
    (value_anywhere cms_checks 48 unchecked certificate_id σ σ τ τ (None, (hash, [])) (λ e. omega arith) (λ place. refl) (certificate_id_valid σ hash by) (λ place. refl))
    (unread_valid cms_checks τ [])

signing_certificate_valid : (σ : State) (hash : List ℕ) → σ.by_sha256 ≡ true → Anywhere cms_checks signing_certificate σ (((None, (hash, [])), []), []) (with_hash σ hash)
signing_certificate_valid σ hash by =
    let τ = with_hash σ hash in
    required_valid cms_checks 48 unchecked certificate_ids unread σ τ τ ((None, (hash, [])), []) []
    (value_anywhere cms_checks 48 unchecked certificate_ids σ σ τ τ ((None, (hash, [])), []) (λ e. omega arith) (λ place. refl) (certificate_ids_valid σ hash by) (λ place. refl))
    (unread_valid cms_checks τ [])

certificate_value : (σ : State) (hash : List ℕ) → σ.kind ≡ Some SigningCertificate → σ.by_sha256 ≡ true
    → Anywhere cms_checks attribute_values σ (inr (inr (inl ((((None, (hash, [])), []), []), tt)))) (with_hash σ hash)
certificate_value σ hash is by =
    let τ = with_hash σ hash in
    let p : SigningCertificateParts = (((None, (hash, [])), []), []) in
    second_valid cms_checks is_content_type _ _ σ τ (inr (inl (p, tt))) (rw is refl)
    (second_valid cms_checks is_message_digest _ _ σ τ (inl (p, tt)) (rw is refl)
    (first_valid cms_checks is_signing_certificate _ _ σ τ (p, tt) (rw is refl)
    (required_valid cms_checks 48 unchecked signing_certificate nothing_more σ τ τ p tt
    (value_anywhere cms_checks 48 unchecked signing_certificate σ σ τ τ p (λ e. omega arith) (λ place. refl) (signing_certificate_valid σ hash by) (λ place. refl))
    (nothing_valid cms_checks τ))))

-- ---- an attribute

type_passes : (kind : AttrKind) (σ : State) → has_come σ kind ≡ false → PassesHeader cms_checks 6 (checked none_of_its_kind_before) σ (type_of kind) (typed σ kind)
unfolding type_at oid_of
type_passes ContentType σ new place = rw new refl
type_passes MessageDigest σ new place = rw new refl
type_passes SigningCertificate σ new place = rw new refl

attribute_valid : (kind : AttrKind) (σ τ : State) (v : ValuesParts) → has_come σ kind ≡ false → Anywhere cms_checks attribute_values (typed σ kind) v τ
    → Anywhere cms_checks attribute σ (type_of kind, (v, tt)) τ
attribute_valid kind σ τ v new inside =
    let σ1 = typed σ kind in
    required_valid cms_checks 6 (checked none_of_its_kind_before) unread _ σ σ1 τ (type_of kind) (v, tt)
    (leaf_anywhere cms_checks 6 (checked none_of_its_kind_before) σ σ1 σ1 (type_of kind) (λ e. omega arith) (type_passes kind σ new) (λ place. refl))
    (required_valid cms_checks 49 unchecked attribute_values nothing_more σ1 τ τ v tt
    (value_anywhere cms_checks 49 unchecked attribute_values σ1 σ1 τ τ v (λ e. omega arith) (λ place. refl) inside (λ place. refl))
    (nothing_valid cms_checks τ))

order_passes : (σ : State) (content : List ℕ) → is_gt (set_order_of σ.before (value 48 content)) ≡ false → PassesHeader cms_checks 48 (checked in_order) σ content (headed σ (value 48 content))
unfolding attribute_at
order_passes σ content above place = rw above refl

in_order_valid : (σ τ : State) (p : AttributeParts) → is_gt (set_order_of σ.before (value 48 (spell attribute p))) ≡ false → Anywhere cms_checks attribute (headed σ (value 48 (spell attribute p))) p τ
    → AnyValue cms_checks 48 (checked in_order) attribute σ p τ
in_order_valid σ τ p above inside =
    value_anywhere cms_checks 48 (checked in_order) attribute σ (headed σ (value 48 (spell attribute p))) τ τ p (λ e. omega arith) (order_passes σ (spell attribute p) above) inside (λ place. refl)

-- ---- the order of the three

closed_length : length (value 6 (type_of ContentType) ++ value 49 (value 6 id_tst_info)) ≡ 26
unfolding value length_octets extra
closed_length = refl

content_type_length : length (spell attribute content_type_parts) ≡ 26
content_type_length = rw content_type_inner closed_length

digest_front : (digest : List ℕ) → spell attribute (digest_parts digest) ≡ 6 ∷ 9 ∷ (type_of MessageDigest ++ value 49 (value 4 digest))
digest_front digest = digest_inner digest ∙ rw (short_value 6 (type_of MessageDigest) (omega arith)) refl

certificate_front : (hash : List ℕ) → spell attribute (certificate_parts hash) ≡ 6 ∷ 11 ∷ (type_of SigningCertificate ++ value 49 (certificate_text hash))
certificate_front hash = certificate_inner hash ∙ rw (short_value 6 (type_of SigningCertificate) (omega arith)) refl

digest_length : (digest : List ℕ) → length digest ≡ 32 → length (value 49 (value 4 digest)) ≡ 36
digest_length digest is = short_length 49 (value 4 digest) 34 (short_length 4 digest 32 is (omega arith)) (omega arith)

hash_length : (hash : List ℕ) (n : ℕ) → length hash ≡ n → n ≤ 64 → length (value 49 (certificate_text hash)) ≡ n + 10
hash_length hash n is short =
    let one = short_length 4 hash n is (omega (arith, short)) in
    let two = short_length 48 _ (n + 2) one (omega (arith, short)) in
    let three = short_length 48 _ (n + 2 + 2) two (omega (arith, short)) in
    let four = short_length 48 _ (n + 2 + 2 + 2) three (omega (arith, short)) in
    omega (arith, short_length 49 _ (n + 2 + 2 + 2 + 2) four (omega (arith, short)))

digest_above : (digest : List ℕ) → length digest ≡ 32 → is_gt (set_order_of (value 48 (spell attribute content_type_parts)) (value 48 (spell attribute (digest_parts digest)))) ≡ false
digest_above digest is =
    let longer : length (spell attribute (digest_parts digest)) ≡ 47 = rw (digest_front digest) (omega (arith, length-append (type_of MessageDigest) (value 49 (value 4 digest)), digest_length digest is)) in
    is_above _ _ (omega (arith, content_type_length, longer)) (omega (arith, longer))

certificate_above : (digest hash : List ℕ) → length digest ≡ 32 → 24 ≤ length hash → length hash ≤ 64
    → is_gt (set_order_of (value 48 (spell attribute (digest_parts digest))) (value 48 (spell attribute (certificate_parts hash)))) ≡ false
certificate_above digest hash is least most =
    let x = type_of MessageDigest ++ value 49 (value 4 digest) in
    let y = type_of SigningCertificate ++ value 49 (certificate_text hash) in
    let x_is : length x ≡ 45 = omega (arith, length-append (type_of MessageDigest) (value 49 (value 4 digest)), digest_length digest is) in
    let y_is : length y ≡ length hash + 21 = omega (arith, length-append (type_of SigningCertificate) (value 49 (certificate_text hash)), hash_length hash (length hash) refl most) in
    rw (digest_front digest, certificate_front hash) (is_not_below x y (omega (arith, x_is, y_is, least)) (omega (arith, y_is, most)))

-- ---- all of them

none_is_missing : (digest hash : List ℕ) → missing_of (after_certificate digest hash) ≡ Ok (kept digest (Some hash))
unfolding missing_of
none_is_missing digest hash = refl

nothing_behind : spell {C = CmsCheck} (checkpoint none_missing nothing_more) tt ≡ []
unfolding spell
nothing_behind = refl

pub attributes_valid : (u : ToSign) → 24 ≤ length u.cert_hash → length u.cert_hash ≤ 64
    → Anywhere cms_checks attributes start (written_attributes u) (kept (digest_of Sha256 u.content) (Some u.cert_hash))
attributes_valid u least most =
    let digest = digest_of Sha256 u.content in
    let hash = u.cert_hash in
    let is = length-digest_of Sha256 u.content in
    let τ = kept digest (Some hash) in
    let one = in_order_valid start after_content_type content_type_parts (empty_is_least _) (attribute_valid ContentType _ after_content_type _ refl (content_type_value _ refl)) in
    let two = in_order_valid after_content_type (after_digest digest) (digest_parts digest) (digest_above digest is) (attribute_valid MessageDigest _ (after_digest digest) _ refl (digest_value _ digest refl)) in
    let three = in_order_valid (after_digest digest) (after_certificate digest hash) (certificate_parts hash) (certificate_above digest hash is least most) (attribute_valid SigningCertificate _ (after_certificate digest hash) _ refl (certificate_value _ hash refl refl)) in
    repeated_valid cms_checks 48 (checked in_order) attribute (checkpoint none_missing nothing_more) start (after_certificate digest hash) τ _ tt
    (after_content_type, one, (after_digest digest, two, (after_certificate digest hash, three, refl)))
    nothing_behind
    (checkpoint_valid cms_checks none_missing nothing_more (after_certificate digest hash) τ τ tt (λ place. none_is_missing digest hash) (nothing_valid cms_checks τ))

-- The signed attributes that were read are a list, and its attributes of known kinds are what the state keeps.
use Rattle.std.proofs.Common.{◌≡◌, ℕ, Bool, true, false, cond, List, [], ◌∷◌, ◌++◌, Option, Some, None, Result, Ok, Err, refl, sym, ap, subst, ◌∙◌, append_assoc, inl, inr}
use Rattle.std.specs.Prelude.{not, map, is_some, if◌then◌else◌}
use Rattle.std.specs.List.{flat_map}
use Rattle.std.specs.Option.{option_map}
use Rattle.std.specs.Ordering.{is_gt}
use Rattle.std.specs.Str.{bytes_eq}
use Rattle.std.proofs.lemmas.List.{append-nil}
use Rattle.std.proofs.lemmas.List.Elements.{filter-append}
use Rattle.std.proofs.lemmas.Slice.Eq.{bytes_eq-Decides}
use Rattle.der_values.specs.declared.fault.DerFault.{DerFault}
use Rattle.der_values.specs.declared.fault.DerKind.TheVariants.{BadValue}
use Rattle.der_values.specs.Value.{value}
use Rattle.der_values.specs.Steps.{lift}
use Rattle.der_values.specs.Next.{contents}
use Rattle.der_values.specs.Typed.{oid_of}
use Rattle.der_values.specs.Order.{set_order_of}
use Rattle.der_values.specs.Shape.{tagged, unchecked, checked, nothing_more, required, spell}
use Rattle.der_values.specs.Grammar.{ValidValue, ValidAll, Valid}
use Rattle.der_values.specs.Algorithm.{name_of, AlgorithmParts, algorithm_shape, algorithm_of}
use Rattle.der_values.proofs.Values.{ok_is, bind_ok}
use Rattle.der_values.proofs.Written.{item}
use Rattle.der_values.proofs.Accepted.{name_again, algorithm_read, unchecked_inside, last_inside, first_inside}
use Rattle.cms_signed.specs.declared.fault.AttrKind.{AttrKind}
use Rattle.cms_signed.specs.declared.fault.AttrKind.TheVariants.{ContentType, MessageDigest, SigningCertificate}
use Rattle.cms_signed.specs.declared.fault.CmsFault.{CmsFault}
use Rattle.cms_signed.specs.declared.fault.CmsFault.TheVariants as faults
use Rattle.cms_signed.specs.Names.{id_tst_info, type_of, is_sha256}
use Rattle.cms_signed.specs.State.{State, start, has_come}
use Rattle.cms_signed.specs.Checks.{CmsCheck, in_order, demand, cms_checks, attribute_at, type_at, kind_of, first_of_kind, is_kind, content_type_at, tst_info_at, hash_algorithm_at, named_missing, missing_of}
use Rattle.cms_signed.specs.Attributes.{certificate_id, certificate_ids, signing_certificate, attribute_values, attribute, attributes, SigningCertificateParts, ValuesParts, AttributeParts, AttributesParts}
use Rattle.cms_signed.specs.AttributeList.{Attribute, attribute_spelling, of_kind, one_of, hash_algorithm_spelling, is_by_sha256, NamesCertificate}
use Rattle.cms_signed.specs.Signed.{kept}

-- ---- attributes as they stand in the table

abbrev pub attribute_of : AttributeParts → Attribute
attribute_of p = record { type = p.0; values = spell attribute_values p.1.0 }

attribute_spelled : (p : AttributeParts) → value 0x30 (spell attribute p) ≡ attribute_spelling (attribute_of p)
unfolding spell
attribute_spelled p = ap (λ (l : List ℕ). value 0x30 (value 0x06 p.0 ++ l)) (append-nil (value 0x31 (spell attribute_values p.1.0)))

all_spelled : (ps : List AttributeParts) → flat_map (λ (p : AttributeParts). value 0x30 (spell attribute p)) ps ≡ flat_map attribute_spelling (map attribute_of ps)
all_spelled [] = refl
all_spelled (p ∷ ps) = λ i. attribute_spelled p i ++ all_spelled ps i

pub list_spelled : (p : AttributesParts) → spell attributes p ≡ flat_map attribute_spelling (map attribute_of p.0)
unfolding spell
list_spelled p = append-nil (flat_map (λ (q : AttributeParts). value 0x30 (spell attribute q)) p.0) ∙ all_spelled p.0

-- ---- checks that passed

pub demand_ok : (b : Bool) (f : CmsFault) (σ τ : State) → demand b f σ ≡ Ok τ → (b ≡ true) × (σ ≡ τ)
demand_ok true f σ τ e = (refl, ok_is {F = CmsFault} σ τ e)
demand_ok false f σ τ e = absurd cc

order_ok : (b : Bool) (σ τ : State) → (if b then Err faults.AttrOrder else Ok σ) ≡ Ok τ → σ ≡ τ
order_ok true σ τ e = absurd cc
order_ok false σ τ e = ok_is {F = CmsFault} σ τ e

oid_ok : (b : Bool) (place : ℕ) (content x : List ℕ) → cond {A = Result (List ℕ) DerFault} b (Ok content) (Err (record { place = place; kind = BadValue })) ≡ Ok x → content ≡ x
oid_ok true place content x e = ok_is {F = DerFault} content x e
oid_ok false place content x e = absurd cc

lift_ok : {A : Type 0} (r : Result A DerFault) (y : A) → lift faults.Der r ≡ Ok y → r ≡ Ok y
lift_ok (Ok x) y e = cc
lift_ok (Err d) y e = absurd cc

-- an OBJECT IDENTIFIER that was read is its contents
oid_read : (place : ℕ) (content x : List ℕ) → lift faults.Der (oid_of (item place 6 content)) ≡ Ok x → content ≡ x
unfolding oid_of
oid_read place content x e = oid_ok _ place content x (lift_ok _ x e)

-- ---- what is kept of each kind

abbrev IsTyped : Bool → List Attribute → Type 0
IsTyped false xs = xs ≡ []
IsTyped true xs = xs ≡ one_of ContentType (value 0x06 id_tst_info)

abbrev IsDigested : Option (List ℕ) → List Attribute → Type 0
IsDigested None xs = xs ≡ []
IsDigested (Some digest) xs = xs ≡ one_of MessageDigest (value 0x04 digest)

abbrev IsCertified : Option (Option (List ℕ)) → List Attribute → Type 0
IsCertified None xs = xs ≡ []
IsCertified (Some hash) xs = (bytes : List ℕ) × (xs ≡ one_of SigningCertificate bytes) × NamesCertificate bytes hash

-- the attributes so far are those that the state keeps
pub record Keeps (σ : State) (list : List Attribute) : Type 0 where
  pub typed : IsTyped σ.content_type (of_kind ContentType list)
  pub digested : IsDigested σ.message_digest (of_kind MessageDigest list)
  pub certified : IsCertified σ.certificate (of_kind SigningCertificate list)
  pub by_default : σ.certificate ≡ None → σ.by_sha256 ≡ true

not_added : (kind : AttrKind) (list : List Attribute) (a : Attribute) → bytes_eq a.type (type_of kind) ≡ false → of_kind kind (list ++ a ∷ []) ≡ of_kind kind list
not_added kind list a e = filter-append (λ (x : Attribute). bytes_eq x.type (type_of kind)) list (a ∷ []) ∙ rw e (append-nil (of_kind kind list))

own : (kind : AttrKind) (values : List ℕ) → of_kind kind (one_of kind values) ≡ one_of kind values
own ContentType values = refl
own MessageDigest values = refl
own SigningCertificate values = refl

is_added : (kind : AttrKind) (list : List Attribute) (values : List ℕ) → of_kind kind list ≡ [] → of_kind kind (list ++ one_of kind values) ≡ one_of kind values
is_added kind list values none = filter-append (λ (x : Attribute). bytes_eq x.type (type_of kind)) list (one_of kind values) ∙ ap (λ (l : List Attribute). l ++ of_kind kind (one_of kind values)) none ∙ own kind values

-- ---- the kind of a type

abbrev pick : Bool → Bool → Bool → Option AttrKind
pick a b c = if a then Some ContentType else (if b then Some MessageDigest else (if c then Some SigningCertificate else None))

abbrev Picked : (oid : List ℕ) → Option AttrKind → Type 0
Picked oid None = (kind : AttrKind) → bytes_eq oid (type_of kind) ≡ false
Picked oid (Some kind) = oid ≡ type_of kind

picked : (oid : List ℕ) (a b c : Bool) → bytes_eq oid (type_of ContentType) ≡ a → bytes_eq oid (type_of MessageDigest) ≡ b → bytes_eq oid (type_of SigningCertificate) ≡ c → Picked oid (pick a b c)
picked oid true b c p q r = (bytes_eq-Decides oid (type_of ContentType)).0 p
picked oid false true c p q r = (bytes_eq-Decides oid (type_of MessageDigest)).0 q
picked oid false false true p q r = (bytes_eq-Decides oid (type_of SigningCertificate)).0 r
picked oid false false false p q r = all where
  all : (kind : AttrKind) → bytes_eq oid (type_of kind) ≡ false
  all ContentType = p
  all MessageDigest = q
  all SigningCertificate = r

kind_picked : (oid : List ℕ) → Picked oid (kind_of oid)
kind_picked oid = picked oid (bytes_eq oid (type_of ContentType)) (bytes_eq oid (type_of MessageDigest)) (bytes_eq oid (type_of SigningCertificate)) refl refl refl

-- ---- the certificate

-- hashAlgorithm, certHash, and what stands behind
id_after : (σ : State) (place : ℕ) (o : Option AlgorithmParts) (hash behind : List ℕ) (τ : State) → σ.by_sha256 ≡ true → Valid cms_checks certificate_id σ place (o, (hash, behind)) τ
    → (b : Bool) × (b ≡ is_by_sha256 (option_map name_of o)) × (record σ { by_sha256 = b; certificate = Some (if b then Some hash else None) } ≡ τ)
unfolding Valid spell hash_algorithm_at
id_after σ place None hash behind τ by v =
    let kept_hash : record v.0 { certificate = Some (if v.0.by_sha256 then Some hash else None) } ≡ τ = ok_is {F = CmsFault} _ v.2.1.before v.2.1.header_passes ∙ v.2.1.inside ∙ ok_is {F = CmsFault} v.2.1.after v.2.0 v.2.1.end_passes ∙ v.2.2 in
    let same : σ ≡ v.0 = v.1.1 in
    (σ.by_sha256, by, ap (λ (s : State). record s { certificate = Some (if s.by_sha256 then Some hash else None) }) same ∙ kept_hash)
id_after σ place (Some p) hash behind τ by v =
    let w = v.1 in
    let read = algorithm_read cms_checks w.before _ p w.after w.inside in
    let judged = bind_ok (lift faults.Der (algorithm_of (contents (item place 48 (spell {C = CmsCheck} algorithm_shape p))))) _ v.0 w.end_passes in
    let same : p ≡ judged.0.0 = ap (λ (y : AlgorithmParts × Unit {0}). y.0) (ok_is {F = DerFault} (p, tt) judged.0 (sym read.0 ∙ lift_ok _ judged.0 judged.1)) in
    let before : σ ≡ w.after = ok_is {F = CmsFault} σ w.before w.header_passes ∙ read.1 in
    let named : record w.after { by_sha256 = is_sha256 (name_of p) } ≡ v.0 = ap (λ (q : AlgorithmParts). record w.after { by_sha256 = is_sha256 (name_of q) }) same ∙ ok_is {F = CmsFault} _ v.0 judged.2 in
    let kept_hash : record v.0 { certificate = Some (if v.0.by_sha256 then Some hash else None) } ≡ τ = ok_is {F = CmsFault} _ v.2.1.before v.2.1.header_passes ∙ v.2.1.inside ∙ ok_is {F = CmsFault} v.2.1.after v.2.0 v.2.1.end_passes ∙ v.2.2 in
    let both : record σ { by_sha256 = is_sha256 (name_of p) } ≡ v.0 = ap (λ (s : State). record s { by_sha256 = is_sha256 (name_of p) }) before ∙ named in
    (is_sha256 (name_of p), refl, ap (λ (s : State). record s { certificate = Some (if s.by_sha256 then Some hash else None) }) both ∙ kept_hash)

id_spelled : (o : Option AlgorithmParts) (hash behind : List ℕ) → spell certificate_id (o, (hash, behind)) ≡ hash_algorithm_spelling (option_map name_of o) ++ (value 0x04 hash ++ behind)
unfolding spell
id_spelled None hash behind = refl
id_spelled (Some p) hash behind = ap (λ (name : List ℕ). value 0x30 name ++ (value 0x04 hash ++ behind)) (name_again CmsCheck p)

-- ---- the values of an attribute, by its kind

abbrev After : Option AttrKind → State → List ℕ → State → Type 0
After None σ values τ = σ ≡ τ
After (Some ContentType) σ values τ = (values ≡ value 0x06 id_tst_info) × (record σ { content_type = true } ≡ τ)
After (Some MessageDigest) σ values τ = (digest : List ℕ) × (values ≡ value 0x04 digest) × (record σ { message_digest = Some digest } ≡ τ)
After (Some SigningCertificate) σ values τ = (hash : Option (List ℕ)) × (b : Bool) × NamesCertificate values hash × (record σ { by_sha256 = b; certificate = Some hash } ≡ τ)

kind_is : (kind : AttrKind) (o : Option AttrKind) → is_kind kind o ≡ true → o ≡ Some kind
kind_is ContentType None e = absurd cc
kind_is MessageDigest None e = absurd cc
kind_is SigningCertificate None e = absurd cc
kind_is ContentType (Some ContentType) e = refl
kind_is ContentType (Some MessageDigest) e = absurd cc
kind_is ContentType (Some SigningCertificate) e = absurd cc
kind_is MessageDigest (Some ContentType) e = absurd cc
kind_is MessageDigest (Some MessageDigest) e = refl
kind_is MessageDigest (Some SigningCertificate) e = absurd cc
kind_is SigningCertificate (Some ContentType) e = absurd cc
kind_is SigningCertificate (Some MessageDigest) e = absurd cc
kind_is SigningCertificate (Some SigningCertificate) e = refl

none_is : (o : Option AttrKind) → is_kind ContentType o ≡ false → is_kind MessageDigest o ≡ false → is_kind SigningCertificate o ≡ false → o ≡ None
none_is None a b c = refl
none_is (Some ContentType) a b c = absurd cc
none_is (Some MessageDigest) a b c = absurd cc
none_is (Some SigningCertificate) a b c = absurd cc

certificate_spelled : (q : SigningCertificateParts) → value 0x30 (spell signing_certificate q)
    ≡ value 0x30 (value 0x30 (value 0x30 (hash_algorithm_spelling (option_map name_of q.0.0.0) ++ (value 0x04 q.0.0.1.0 ++ q.0.0.1.1)) ++ q.0.1) ++ q.1)
unfolding spell
certificate_spelled q = ap (λ (text : List ℕ). value 0x30 (value 0x30 (value 0x30 text ++ q.0.1) ++ q.1)) (id_spelled q.0.0.0 q.0.0.1.0 q.0.0.1.1)

certificate_after : (σ : State) (place : ℕ) (p : SigningCertificateParts × Unit {0}) (τ : State) → σ.by_sha256 ≡ true → Valid cms_checks (required (tagged 0x30) unchecked signing_certificate nothing_more) σ place p τ
    → After (Some SigningCertificate) σ (value 0x30 (spell signing_certificate p.0) ++ []) τ
certificate_after σ place p τ by v =
    let all = last_inside cms_checks 48 signing_certificate σ place p τ v in
    let some = first_inside cms_checks 48 certificate_ids σ all.0 p.0 τ all.1 in
    let one = first_inside cms_checks 48 certificate_id σ some.0 p.0.0 τ some.1 in
    let id = p.0.0.0 in
    let is = id_after σ one.0 id.0 id.1.0 id.1.1 τ by one.1 in (
      (if is.0 then Some id.1.0 else None),
      is.0,
      record {
        algorithm = option_map name_of id.0;
        hash = id.1.0;
        behind_hash = id.1.1;
        behind_first = p.0.0.1;
        behind_certificates = p.0.1;
        spelled = append-nil (value 0x30 (spell signing_certificate p.0)) ∙ certificate_spelled p.0;
        counted = ap (λ (b : Bool). if b then Some id.1.0 else None) is.1;
      },
      is.2,
    )

values_after : (σ : State) (place : ℕ) (p : ValuesParts) (τ : State) → (σ.kind ≡ Some SigningCertificate → σ.by_sha256 ≡ true) → Valid cms_checks attribute_values σ place p τ → After σ.kind σ (spell attribute_values p) τ
unfolding Valid spell content_type_at tst_info_at
values_after σ place (inl q) τ by v =
    let w = v.1.1 in
    let typed = record σ { content_type = true } in
    let named = bind_ok (lift faults.Der (oid_of (item place 6 q.0))) _ w.before w.header_passes in
    let passed = demand_ok (bytes_eq named.0 id_tst_info) faults.ContentType typed w.before named.2 in
    let same : q.0 ≡ id_tst_info = oid_read place q.0 named.0 named.1 ∙ (bytes_eq-Decides named.0 id_tst_info).0 passed.0 in
    let to : typed ≡ τ = passed.1 ∙ w.inside ∙ ok_is {F = CmsFault} w.after v.1.0 w.end_passes ∙ v.1.2 in
    subst (λ (kind : Option AttrKind). After kind σ (value 0x06 q.0 ++ []) τ) (sym (kind_is ContentType σ.kind v.0)) (append-nil (value 0x06 q.0) ∙ ap (λ (c : List ℕ). value 0x06 c) same, to)
values_after σ place (inr (inl q)) τ by v =
    let w = v.1.1.1 in
    let digested = record σ { message_digest = Some q.0 } in
    let to : digested ≡ τ = ok_is {F = CmsFault} digested w.before w.header_passes ∙ w.inside ∙ ok_is {F = CmsFault} w.after v.1.1.0 w.end_passes ∙ v.1.1.2 in
    subst (λ (kind : Option AttrKind). After kind σ (value 0x04 q.0 ++ []) τ) (sym (kind_is MessageDigest σ.kind v.1.0)) (q.0, append-nil (value 0x04 q.0), to)
values_after σ place (inr (inr (inl q))) τ by v =
    let is = kind_is SigningCertificate σ.kind v.1.1.0 in
    subst (λ (kind : Option AttrKind). After kind σ (value 0x30 (spell signing_certificate q.0) ++ []) τ) (sym is) (certificate_after σ place q τ (by is) v.1.1.1)
values_after σ place (inr (inr (inr rest))) τ by v =
    subst (λ (kind : Option AttrKind). After kind σ rest τ) (sym (none_is σ.kind v.0 v.1.0 v.1.1.0)) v.1.1.1

-- ---- one attribute more

-- by what its type may be, where the attributes before are kept
abbrev Typed : Option AttrKind → State → Type 0
Typed None σ = Unit {0}
Typed (Some kind) σ = has_come σ kind ≡ false

type_ok : (σ : State) (o : Option AttrKind) (τ : State) → first_of_kind σ o ≡ Ok τ → Typed o σ × (record σ { kind = o } ≡ τ)
type_ok σ None τ e = (tt, ok_is {F = CmsFault} _ τ e)
type_ok σ (Some kind) τ e = let d = demand_ok (not (has_come σ kind)) (faults.DoubleAttr kind) (record σ { kind = Some kind }) τ e in (new (has_come σ kind) d.0, d.1) where
  new : (b : Bool) → not b ≡ true → b ≡ false
  new true e = absurd cc
  new false e = refl

none_digested : (o : Option (List ℕ)) (xs : List Attribute) → is_some o ≡ false → IsDigested o xs → xs ≡ []
none_digested None xs e d = d
none_digested (Some digest) xs e d = absurd cc

none_certified : (o : Option (Option (List ℕ))) (xs : List Attribute) → is_some o ≡ false → IsCertified o xs → xs ≡ []
none_certified None xs e d = d
none_certified (Some hash) xs e d = absurd cc

none_typed : (b : Bool) (xs : List Attribute) → b ≡ false → IsTyped b xs → xs ≡ []
none_typed false xs e d = d
none_typed true xs e d = absurd cc

none_there : (o : Option (Option (List ℕ))) → is_some o ≡ false → o ≡ None
none_there None e = refl
none_there (Some hash) e = absurd cc

-- σ is the state before, and before and kind are what the attribute's header and its type changed
keeps_more : (o : Option AttrKind) (σ : State) (list : List Attribute) (before : List ℕ) (a : Attribute) (τ : State) → Picked a.type o → Typed o σ → Keeps σ list
    → After o (record σ { before = before; kind = o }) a.values τ → Keeps τ (list ++ a ∷ [])
keeps_more None σ list before a τ is new k after = subst (λ (s : State). Keeps s (list ++ a ∷ [])) after (record {
  typed = subst (λ (xs : List Attribute). IsTyped σ.content_type xs) (sym (not_added ContentType list a (is ContentType))) k.typed;
  digested = subst (λ (xs : List Attribute). IsDigested σ.message_digest xs) (sym (not_added MessageDigest list a (is MessageDigest))) k.digested;
  certified = subst (λ (xs : List Attribute). IsCertified σ.certificate xs) (sym (not_added SigningCertificate list a (is SigningCertificate))) k.certified;
  by_default = k.by_default;
})
keeps_more (Some ContentType) σ list before a τ is new k after =
    let b : Attribute = record { type = type_of ContentType; values = value 0x06 id_tst_info } in
    let same : a ≡ b = λ i. record { type = is i; values = after.0 i } in
    subst (λ (x : Attribute). Keeps τ (list ++ x ∷ [])) (sym same) (subst (λ (s : State). Keeps s (list ++ b ∷ [])) after.1 (record {
      typed = is_added ContentType list (value 0x06 id_tst_info) (none_typed σ.content_type _ new k.typed);
      digested = subst (λ (xs : List Attribute). IsDigested σ.message_digest xs) (sym (not_added MessageDigest list b refl)) k.digested;
      certified = subst (λ (xs : List Attribute). IsCertified σ.certificate xs) (sym (not_added SigningCertificate list b refl)) k.certified;
      by_default = k.by_default;
    }))
keeps_more (Some MessageDigest) σ list before a τ is new k after =
    let b : Attribute = record { type = type_of MessageDigest; values = value 0x04 after.0 } in
    let same : a ≡ b = λ i. record { type = is i; values = after.1 i } in
    subst (λ (x : Attribute). Keeps τ (list ++ x ∷ [])) (sym same) (subst (λ (s : State). Keeps s (list ++ b ∷ [])) after.2 (record {
      typed = subst (λ (xs : List Attribute). IsTyped σ.content_type xs) (sym (not_added ContentType list b refl)) k.typed;
      digested = is_added MessageDigest list (value 0x04 after.0) (none_digested σ.message_digest _ new k.digested);
      certified = subst (λ (xs : List Attribute). IsCertified σ.certificate xs) (sym (not_added SigningCertificate list b refl)) k.certified;
      by_default = k.by_default;
    }))
keeps_more (Some SigningCertificate) σ list before a τ is new k after =
    let b : Attribute = record { type = type_of SigningCertificate; values = a.values } in
    let same : a ≡ b = λ i. record { type = is i; values = a.values } in
    subst (λ (x : Attribute). Keeps τ (list ++ x ∷ [])) (sym same) (subst (λ (s : State). Keeps s (list ++ b ∷ [])) after.3 (record {
      typed = subst (λ (xs : List Attribute). IsTyped σ.content_type xs) (sym (not_added ContentType list b refl)) k.typed;
      digested = subst (λ (xs : List Attribute). IsDigested σ.message_digest xs) (sym (not_added MessageDigest list b refl)) k.digested;
      certified = (a.values, is_added SigningCertificate list a.values (none_certified σ.certificate _ new k.certified), after.2);
      by_default = λ e. absurd cc;
    }))

-- by_default where a signing-certificate is read
default_at : (o : Option AttrKind) (σ : State) → Typed o σ → (σ.certificate ≡ None → σ.by_sha256 ≡ true) → o ≡ Some SigningCertificate → σ.by_sha256 ≡ true
default_at None σ new by e = absurd cc
default_at (Some ContentType) σ new by e = absurd cc
default_at (Some MessageDigest) σ new by e = absurd cc
default_at (Some SigningCertificate) σ new by e = by (none_there σ.certificate new)

abbrev ValidAttribute : State → ℕ → AttributeParts → State → Type 0
ValidAttribute σ place p τ = ValidValue cms_checks (tagged 0x30) (checked in_order) (Valid cms_checks attribute) (spell attribute) σ place p τ

one_more : (σ : State) (place : ℕ) (p : AttributeParts) (τ : State) (list : List Attribute) → Keeps σ list → ValidAttribute σ place p τ → Keeps τ (list ++ attribute_of p ∷ [])
unfolding Valid spell attribute_at type_at
one_more σ place p τ list k v =
    let text = value 0x30 (spell attribute p) in
    let σ0 = record σ { before = text } in
    let in_place : σ0 ≡ v.before = order_ok (is_gt (set_order_of σ.before text)) σ0 v.before v.header_passes in
    let w = v.inside.1 in
    let named = bind_ok (lift faults.Der (oid_of (item (contents (item place 48 (spell attribute p))).place 6 p.0))) _ w.before w.header_passes in
    let same : p.0 ≡ named.0 = oid_read _ p.0 named.0 named.1 in
    let typed = type_ok v.before (kind_of named.0) w.before named.2 in
    let kind = kind_of p.0 in
    let new : Typed kind σ0 = subst (λ (s : State). Typed kind s) (sym in_place) (subst (λ (oid : List ℕ). Typed (kind_of oid) v.before) (sym same) typed.0) in
    let from : record σ0 { kind = kind } ≡ v.inside.0 =
    ap (λ (s : State). record s { kind = kind }) in_place ∙ ap (λ (oid : List ℕ). record v.before { kind = kind_of oid }) same ∙ typed.1 ∙ w.inside ∙ ok_is {F = CmsFault} w.after v.inside.0 w.end_passes in
    let values = unchecked_inside cms_checks 49 attribute_values v.inside.0 _ p.1.0 v.inside.2.0 v.inside.2.1 in
    let to : v.inside.2.0 ≡ τ = v.inside.2.2 ∙ ok_is {F = CmsFault} v.after τ v.end_passes in
    let valid : Valid cms_checks attribute_values (record σ0 { kind = kind }) values.0 p.1.0 τ =
    subst (λ (s : State). Valid cms_checks attribute_values s values.0 p.1.0 τ) (sym from) (subst (λ (s : State). Valid cms_checks attribute_values v.inside.0 values.0 p.1.0 s) to values.1) in
    let after = values_after (record σ0 { kind = kind }) values.0 p.1.0 τ (default_at kind σ0 new k.by_default) valid in
    keeps_more kind σ list text (attribute_of p) τ (kind_picked p.0) (typed_before kind σ text new) k after where
      typed_before : (o : Option AttrKind) (s : State) (text : List ℕ) → Typed o (record s { before = text }) → Typed o s
      typed_before None s text n = n
      typed_before (Some ContentType) s text n = n
      typed_before (Some MessageDigest) s text n = n
      typed_before (Some SigningCertificate) s text n = n

all_kept : (ps : List AttributeParts) (σ : State) (place : ℕ) (τ : State) (list : List Attribute) → Keeps σ list → ValidAll ValidAttribute (λ (p : AttributeParts). value 0x30 (spell attribute p)) σ place ps τ → Keeps τ (list ++ map attribute_of ps)
all_kept [] σ place τ list k v = subst (λ (l : List Attribute). Keeps τ l) (sym (append-nil list)) (subst (λ (s : State). Keeps s list) v k)
all_kept (p ∷ ps) σ place τ list k v =
    subst (λ (l : List Attribute). Keeps τ l) (append_assoc list (attribute_of p ∷ []) (map attribute_of ps)) (all_kept ps v.0 _ τ (list ++ attribute_of p ∷ []) (one_more σ place p v.0 list k v.1) v.2)

-- ---- all of them

-- what the state keeps where no kind is missing
pub record Complete (σ τ : State) : Type 0 where
  pub digest : List ℕ
  pub hash : Option (List ℕ)
  pub has_type : σ.content_type ≡ true
  pub has_digest : σ.message_digest ≡ Some digest
  pub has_certificate : σ.certificate ≡ Some hash
  pub is : kept digest hash ≡ τ

abbrev missing : Bool → Option (List ℕ) → Option (Option (List ℕ)) → Option AttrKind
missing a b c = if not a then Some ContentType else (if not (is_some b) then Some MessageDigest else (if not (is_some c) then Some SigningCertificate else None))

complete : (σ τ : State) → missing_of σ ≡ Ok τ → Complete σ τ
unfolding missing_of
complete σ τ e = by_parts σ.content_type σ.message_digest σ.certificate refl refl refl e where
  by_parts : (a : Bool) (b : Option (List ℕ)) (c : Option (Option (List ℕ))) → σ.content_type ≡ a → σ.message_digest ≡ b → σ.certificate ≡ c → named_missing (record σ { content_type = a; message_digest = b; certificate = c }) (missing a b c) ≡ Ok τ → Complete σ τ
  by_parts false b c p q r e = absurd cc
  by_parts true None c p q r e = absurd cc
  by_parts true (Some digest) None p q r e = absurd cc
  by_parts true (Some digest) (Some hash) p q r e = record { digest = digest; hash = hash; has_type = p; has_digest = q; has_certificate = r; is = ok_is {F = CmsFault} _ τ e }

none_kept : Keeps start []
none_kept = record { typed = refl; digested = refl; certified = refl; by_default = λ e. refl }

-- The attributes that were read: their list, and the state that they leave.
pub record Listed (p : AttributesParts) (τ : State) : Type 0 where
  pub digest : List ℕ
  pub hash : Option (List ℕ)
  pub certificate : List ℕ
  pub content_type : of_kind ContentType (map attribute_of p.0) ≡ one_of ContentType (value 0x06 id_tst_info)
  pub message_digest : of_kind MessageDigest (map attribute_of p.0) ≡ one_of MessageDigest (value 0x04 digest)
  pub signing_certificate : of_kind SigningCertificate (map attribute_of p.0) ≡ one_of SigningCertificate certificate
  pub names : NamesCertificate certificate hash
  pub leaves : kept digest hash ≡ τ

pub attributes_listed : (place : ℕ) (p : AttributesParts) (τ : State) → Valid cms_checks attributes start place p τ → Listed p τ
unfolding Valid spell
attributes_listed place p τ v =
    let k = all_kept p.0 start place v.0 [] none_kept v.1 in
    let m = v.3 in
    let c = complete v.0 m.0 m.1 in
    let certified = subst (λ (o : Option (Option (List ℕ))). IsCertified o (of_kind SigningCertificate (map attribute_of p.0))) c.has_certificate k.certified in
    record {
      digest = c.digest;
      hash = c.hash;
      certificate = certified.0;
      content_type = subst (λ (b : Bool). IsTyped b (of_kind ContentType (map attribute_of p.0))) c.has_type k.typed;
      message_digest = subst (λ (o : Option (List ℕ)). IsDigested o (of_kind MessageDigest (map attribute_of p.0))) c.has_digest k.digested;
      signing_certificate = certified.1;
      names = certified.2;
      leaves = c.is ∙ m.2;
    }

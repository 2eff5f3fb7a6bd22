-- A token says one thing, or one check is the first that fails.
use Rattle.std.proofs.Common.{◌≡◌, ℕ, ◌<◌, ◌≤◌, List, length, Option, Some, None, Ok, Err, arith, refl, sym, ap, subst, ◌∙◌}
use Rattle.civil_moment.specs.declared.moment.Moment.{Moment}
use Rattle.der_values.specs.Input.{Input}
use Rattle.der_values.specs.Shape.{Shape, Checks, Parts as Tuple}
use Rattle.der_values.specs.Reading.{Reading, first}
use Rattle.der_values.specs.Grammar.{Means, from_start}
use Rattle.der_values.proofs.Meaning.{means_found, one_meaning}
use Rattle.tst_info.specs.declared.fault.TstFault.{TstFault}
use Rattle.tst_info.specs.Checks.{stamp_checks}
use Rattle.tst_info.specs.Info.{Tst, tst_shape, tst_of, with_text, ReadsTst, tst_first_fault}
use Rattle.tst_info.proofs.InfoLemmas.{one_tst}
use Rattle.cms_signed.specs.declared.fault.CmsFault.{CmsFault}
use Rattle.cms_signed.specs.State.{start}
use Rattle.cms_signed.specs.Checks.{cms_checks}
use Rattle.cms_signed.specs.Signed.{Parts, token, token_named, named, ReadsSigned, first_fault}
use Rattle.cms_signed.proofs.Named.{named_once}
use Rattle.algorithm_policy.specs.Content.{Content}
use Rattle.token_check.specs.declared.fault.Check.{Check}
use Rattle.token_check.specs.declared.fault.Check.TheVariants as checks
use Rattle.token_check.specs.Sound.{longest, Stamp, stamp_of, IsSigned, IsStamped, Sound}
use Rattle.cms_signed.specs.Names.{known_hash}
use Rattle.token_check.specs.Fault.{trust_fault, HasContentFault, HasTrustFault, Fails}
use Rattle.token_check.proofs.Trust.{trusted_passes}

some_is : {A : Type 0} (x y : A) → ◌≡◌ {A = Option A} (Some x) (Some y) → x ≡ y
some_is x y e = cc

not_none : {A : Type 0} (x : A) → ◌≡◌ {A = Option A} None (Some x) → ⊥
not_none x e = cc

-- ---- what has a meaning has no fault

module _ {C S F V : Type 0} (k : Checks C S F) (s : Shape C) (σ : S) (f : Tuple s → S → V) (input : Input) where
  no_fault : (v : V) → Means k s σ f input v → first k s σ input ≡ None
  no_fault v m = ap (λ (r : Reading (Tuple s) S F). elim r as (λ r. Option F) [ Ok x ↦ None | Err e ↦ Some e ]) (means_found k s σ f input v m).is

signed_free : (bytes : List ℕ) (s : Parts) → ReadsSigned bytes s → first_fault bytes ≡ None
signed_free bytes s m = no_fault cms_checks token start token_named (from_start bytes) (named s) m

info_free : (bytes : List ℕ) (t : Tst Moment) → ReadsTst bytes t → tst_first_fault bytes ≡ None
info_free bytes t m = no_fault stamp_checks tst_shape tt (λ p σ. tst_of p.0) (from_start bytes) (with_text m.text t) m.meant

-- ---- one reading

signed_once : (bytes : List ℕ) (a b : Parts) → IsSigned bytes a → IsSigned bytes b → a ≡ b
signed_once bytes a b m n = named_once a b (one_meaning cms_checks token start token_named (from_start bytes) (named a) (named b) m.reads n.reads)

module _ (bytes : List ℕ) (s u : Parts) (t v : Tst Moment) (a : IsStamped bytes s t) (b : IsStamped bytes u v) where
  same_signed : s ≡ u
  same_signed = signed_once bytes s u a.is_signed b.is_signed

  same_info : t ≡ v
  same_info = one_tst u.content t v (subst (λ (x : Parts). ReadsTst x.content t) same_signed a.content) b.content

pub says_once : (policy : Content) (bytes : List ℕ) (a b : Stamp) → Sound policy bytes a → Sound policy bytes b → a ≡ b
says_once policy bytes a b m n =
    let signed = same_signed bytes m.signed n.signed m.info n.info m.read n.read in
    let info = same_info bytes m.signed n.signed m.info n.info m.read n.read in
    let alg = some_is a.alg b.alg (sym m.trusted.hash ∙ ap (λ (t : Tst Moment). known_hash t.hash) info ∙ n.trusted.hash) in
    sym m.says ∙ (λ i. stamp_of (alg i) (info i) (signed i)) ∙ n.says

-- ---- one fault

data Stage (policy : Content) (bytes : List ℕ) (c : Check) : Type 0 where
  long : longest < length bytes → c ≡ checks.TooLong → Stage policy bytes c
  unsigned : length bytes ≤ longest → (e : CmsFault) → first_fault bytes ≡ Some e → c ≡ checks.Cms e → Stage policy bytes c
  unread : (e : TstFault) → HasContentFault bytes e → c ≡ checks.Tst e → Stage policy bytes c
  untrusted : HasTrustFault policy bytes c → Stage policy bytes c

stage : (policy : Content) (bytes : List ℕ) (c : Check) → Fails policy bytes c → Stage policy bytes c
stage policy bytes checks.TooLong h = long h refl
stage policy bytes (checks.Cms e) h = unsigned h.0 e h.1 refl
stage policy bytes (checks.Tst e) h = unread e h refl
stage policy bytes checks.HashUnknown h = untrusted h
stage policy bytes checks.UnknownSigner h = untrusted h
stage policy bytes checks.CertHash h = untrusted h
stage policy bytes checks.MessageDigest h = untrusted h
stage policy bytes checks.BadSignature h = untrusted h

-- a stage that was reached excludes the earlier ones
module _ (policy : Content) (bytes : List ℕ) where
  too_long : {P : Type 0} → longest < length bytes → length bytes ≤ longest → P
  too_long over under = absurd (omega (arith, over, under))

  read_too : {P : Type 0} (s : Parts) (e : CmsFault) → IsSigned bytes s → first_fault bytes ≡ Some e → P
  read_too s e m h = absurd (not_none e (sym (signed_free bytes s m.reads) ∙ h))

  content_too : {P : Type 0} (s : Parts) (t : Tst Moment) (e : TstFault) → IsStamped bytes s t → HasContentFault bytes e → P
  content_too s t e m h =
      let same = signed_once bytes s h.signed m.is_signed h.is_signed in
      absurd (not_none e (sym (info_free s.content t m.content) ∙ ap (λ (x : Parts). tst_first_fault x.content) same ∙ h.content))

  one_content : (d e : TstFault) → HasContentFault bytes d → HasContentFault bytes e → d ≡ e
  one_content d e m n =
      some_is d e (sym m.content ∙ ap (λ (x : Parts). tst_first_fault x.content) (signed_once bytes m.signed n.signed m.is_signed n.is_signed) ∙ n.content)

  one_trust : (c d : Check) → HasTrustFault policy bytes c → HasTrustFault policy bytes d → c ≡ d
  one_trust c d m n =
      let signed = same_signed bytes m.signed n.signed m.info n.info m.read n.read in
      let info = same_info bytes m.signed n.signed m.info n.info m.read n.read in
      some_is c d (sym m.fails ∙ (λ i. trust_fault policy (signed i) (info i)) ∙ n.fails)

  one_stage : (c d : Check) → Stage policy bytes c → Stage policy bytes d → c ≡ d
  one_stage c d (long h p) (long k q) = p ∙ sym q
  one_stage c d (long h p) (unsigned under e k q) = too_long h under
  one_stage c d (long h p) (unread e k q) = too_long h k.is_signed.short
  one_stage c d (long h p) (untrusted k) = too_long h k.read.is_signed.short
  one_stage c d (unsigned under e h p) (long k q) = too_long k under
  one_stage c d (unsigned under e h p) (unsigned under2 f k q) = p ∙ ap checks.Cms (some_is e f (sym h ∙ k)) ∙ sym q
  one_stage c d (unsigned under e h p) (unread f k q) = read_too k.signed e k.is_signed h
  one_stage c d (unsigned under e h p) (untrusted k) = read_too k.signed e k.read.is_signed h
  one_stage c d (unread e h p) (long k q) = too_long k h.is_signed.short
  one_stage c d (unread e h p) (unsigned under f k q) = read_too h.signed f h.is_signed k
  one_stage c d (unread e h p) (unread f k q) = p ∙ ap checks.Tst (one_content e f h k) ∙ sym q
  one_stage c d (unread e h p) (untrusted k) = content_too k.signed k.info e k.read h
  one_stage c d (untrusted h) (long k q) = too_long k h.read.is_signed.short
  one_stage c d (untrusted h) (unsigned under f k q) = read_too h.signed f h.read.is_signed k
  one_stage c d (untrusted h) (unread f k q) = content_too h.signed h.info f h.read k
  one_stage c d (untrusted h) (untrusted k) = one_trust c d h k

  pub fails_once : (c d : Check) → Fails policy bytes c → Fails policy bytes d → c ≡ d
  fails_once c d h k = one_stage c d (stage policy bytes c h) (stage policy bytes d k)

  -- ---- a sound token has none

  no_stage : (stamp : Stamp) (c : Check) → Sound policy bytes stamp → Stage policy bytes c → ⊥
  no_stage stamp c m (long h p) = too_long h m.read.is_signed.short
  no_stage stamp c m (unsigned under e h p) = read_too m.signed e m.read.is_signed h
  no_stage stamp c m (unread e h p) = content_too m.signed m.info e m.read h
  no_stage stamp c m (untrusted h) =
      let signed = same_signed bytes m.signed h.signed m.info h.info m.read h.read in
      let info = same_info bytes m.signed h.signed m.info h.info m.read h.read in
      not_none c (sym (trusted_passes policy m.signed m.info stamp.alg m.trusted) ∙ (λ i. trust_fault policy (signed i) (info i)) ∙ h.fails)

  pub sound_passes : (stamp : Stamp) (c : Check) → Sound policy bytes stamp → Fails policy bytes c → ⊥
  sound_passes stamp c m h = no_stage stamp c m (stage policy bytes c h)

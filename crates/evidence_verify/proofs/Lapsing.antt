-- The first lapse, in words and as a function.
use Rattle.std.proofs.Common.{◌≡◌, ◌⊎◌, inl, inr, Bool, true, false, not, ◌&&◌, List, [], ◌∷◌, ◌++◌, IsTrue, ◌↔◌, Option, Some, None, refl, sym, ap, subst, ◌∙◌, if◌then◌else◌}
use Rattle.std.specs.Prelude.{IfSome}
use Rattle.std.specs.Option.{option_or}
use Rattle.civil_moment.specs.declared.moment.Moment.{Moment}
use Rattle.algorithm_policy.specs.Content.{Content, hash_end}
use Rattle.evidence_verify.specs.declared.verdict.Cause.TheVariants.{Key, Hash}
use Rattle.evidence_verify.specs.declared.verdict.Lapse.{Lapse}
use Rattle.civil_moment.specs.Moment.{is_before}
use Rattle.evidence_verify.specs.Marks.{Mark, key_end, until, ends_chain, IsInTime, AreInTimeBefore, AreInTime, LapsesByKey, LapsesByHash, IsFirstLapse, lapse_by, key_lapse, hash_lapse, lapse_at, first_lapse}

none_is_some : {A : Type 0} {x : A} → None ≡ Some x → ⊥
none_is_some e = cc

some_is_none : {A : Type 0} {x : A} → Some x ≡ None → ⊥
some_is_none e = cc

same_some : {A : Type 0} (x y : A) → Some x ≡ Some y → x ≡ y
same_some x y e = cc

-- ---- the first of two

both_none : {A : Type 0} (o p : Option A) → option_or o p ≡ None → (o ≡ None) × (p ≡ None)
both_none None p e = (refl, e)
both_none (Some x) p e = absurd (some_is_none e)

second : {A : Type 0} (o p : Option A) → o ≡ None → option_or o p ≡ p
second None p e = refl
second (Some x) p e = absurd (some_is_none e)

first : {A : Type 0} (o p : Option A) (x : A) → o ≡ Some x → option_or o p ≡ Some x
first None p x e = absurd (none_is_some e)
first (Some y) p x e = e

which : {A : Type 0} (o p : Option A) (x : A) → option_or o p ≡ Some x → (o ≡ Some x) ⊎ ((o ≡ None) × (p ≡ Some x))
which None p x e = inr (refl, e)
which (Some y) p x e = inl e

-- ---- the key

key_test : {A : Type 0} (b : Bool) (x : A) → (if b then None else Some x) ≡ None → b ≡ true
key_test true x e = refl
key_test false x e = absurd (some_is_none e)

key_ended : {A : Type 0} (b : Bool) (x y : A) → (if b then None else Some x) ≡ Some y → (b ≡ false) × (x ≡ y)
key_ended true x y e = absurd (none_is_some e)
key_ended false x y e = (refl, same_some x y e)

key_none : (m : Mark) (time : Moment) (o : Option Moment) → key_lapse m time o ≡ None → IfSome o (λ (end : Moment). is_before time end ≡ true)
key_none m time None e = tt
key_none m time (Some end) e = key_test (is_before time end) (lapse_by m Key end) e

none_by_key : (m : Mark) (time : Moment) (o : Option Moment) → IfSome o (λ (end : Moment). is_before time end ≡ true) → key_lapse m time o ≡ None
none_by_key m time None h = refl
none_by_key m time (Some end) h = ap (λ (b : Bool). if b then None else Some (lapse_by m Key end)) h

key_some : (m : Mark) (time : Moment) (o : Option Moment) (lapse : Lapse) → key_lapse m time o ≡ Some lapse
    → (end : Moment) × (o ≡ Some end) × (is_before time end ≡ false) × (lapse ≡ lapse_by m Key end)
key_some m time None lapse e = absurd (none_is_some e)
key_some m time (Some end) lapse e =
    let parts = key_ended (is_before time end) (lapse_by m Key end) lapse e in
    (end, refl, parts.0, sym parts.1)

some_by_key : (m : Mark) (time end : Moment) (o : Option Moment) → o ≡ Some end → is_before time end ≡ false → key_lapse m time o ≡ Some (lapse_by m Key end)
some_by_key m time end o is ended =
    ap (key_lapse m time) is ∙ ap (λ (b : Bool). if b then None else Some (lapse_by m Key end)) ended

-- ---- the hash

hash_test : {A : Type 0} (last b : Bool) (x : A) → (if last && not b then Some x else None) ≡ None → IsTrue last → b ≡ true
hash_test true true x e h = refl
hash_test true false x e h = absurd (some_is_none e)
hash_test false b x e h = absurd cc

hash_passes : {A : Type 0} (last b : Bool) (x : A) → (IsTrue last → b ≡ true) → (if last && not b then Some x else None) ≡ None
hash_passes true true x h = refl
hash_passes true false x h = let e = h refl in absurd cc
hash_passes false b x h = refl

hash_ended : {A : Type 0} (last b : Bool) (x y : A) → (if last && not b then Some x else None) ≡ Some y → IsTrue last × (b ≡ false) × (x ≡ y)
hash_ended true true x y e = absurd (none_is_some e)
hash_ended true false x y e = (refl, refl, same_some x y e)
hash_ended false b x y e = absurd (none_is_some e)

hash_fails : {A : Type 0} (last b : Bool) (x : A) → IsTrue last → b ≡ false → (if last && not b then Some x else None) ≡ Some x
hash_fails true false x h e = refl
hash_fails true true x h e = absurd cc
hash_fails false b x h e = absurd cc

-- ---- one time-stamp

module _ (policy : Content) (moment : Moment) where
  in_time : (m : Mark) (later : List Mark) → lapse_at policy moment m later ≡ None → IsInTime policy m (until moment later) (ends_chain later)
  in_time m later e =
      let time = until moment later in
      let parts = both_none (key_lapse m time (key_end policy m.sid)) (hash_lapse m time (ends_chain later) (hash_end policy m.alg)) e in record {
        key = key_none m time (key_end policy m.sid) parts.0;
        hash = hash_test (ends_chain later) (is_before time (hash_end policy m.alg)) (lapse_by m Hash (hash_end policy m.alg)) parts.1;
      }

  none_at : (m : Mark) (later : List Mark) → IsInTime policy m (until moment later) (ends_chain later) → lapse_at policy moment m later ≡ None
  none_at m later h =
      let time = until moment later in
      second (key_lapse m time (key_end policy m.sid)) _ (none_by_key m time (key_end policy m.sid) h.key)
      ∙ hash_passes (ends_chain later) (is_before time (hash_end policy m.alg)) (lapse_by m Hash (hash_end policy m.alg)) h.hash

  lapses : (m : Mark) (later : List Mark) (lapse : Lapse) → lapse_at policy moment m later ≡ Some lapse
      → LapsesByKey policy m (until moment later) lapse ⊎ LapsesByHash policy m (until moment later) (ends_chain later) lapse
  lapses m later lapse e =
      let time = until moment later in
      elim (which (key_lapse m time (key_end policy m.sid)) (hash_lapse m time (ends_chain later) (hash_end policy m.alg)) lapse e) [
        | inl k ↦ let parts = key_some m time (key_end policy m.sid) lapse k in
            inl (record { end = parts.0; key_is = parts.1; ended = parts.2; is = parts.3 })
        | inr h ↦ let parts = hash_ended (ends_chain later) (is_before time (hash_end policy m.alg)) (lapse_by m Hash (hash_end policy m.alg)) lapse h.1 in
            inr (record { key = key_none m time (key_end policy m.sid) h.0; is_last = parts.0; ended = parts.1; is = sym parts.2 })
      ]

  some_at : (m : Mark) (later : List Mark) (lapse : Lapse)
      → LapsesByKey policy m (until moment later) lapse ⊎ LapsesByHash policy m (until moment later) (ends_chain later) lapse
      → lapse_at policy moment m later ≡ Some lapse
  some_at m later lapse (inl k) =
      let time = until moment later in
      first (key_lapse m time (key_end policy m.sid)) _ (lapse_by m Key k.end) (some_by_key m time k.end (key_end policy m.sid) k.key_is k.ended)
      ∙ ap (λ (l : Lapse). Some l) (sym k.is)
  some_at m later lapse (inr h) =
      let time = until moment later in
      second (key_lapse m time (key_end policy m.sid)) _ (none_by_key m time (key_end policy m.sid) h.key)
      ∙ hash_fails (ends_chain later) (is_before time (hash_end policy m.alg)) (lapse_by m Hash (hash_end policy m.alg)) h.is_last h.ended
      ∙ ap (λ (l : Lapse). Some l) (sym h.is)

  -- ---- all of them

  pub all_in_time : (marks : List Mark) → first_lapse policy moment marks ≡ None → AreInTime policy moment marks
  all_in_time [] e = tt
  all_in_time (m ∷ later) e =
      let parts = both_none (lapse_at policy moment m later) (first_lapse policy moment later) e in
      (in_time m later parts.0, all_in_time later parts.1)

  pub none_lapses : (marks : List Mark) → AreInTime policy moment marks → first_lapse policy moment marks ≡ None
  none_lapses [] h = refl
  none_lapses (m ∷ later) h =
      second (lapse_at policy moment m later) (first_lapse policy moment later) (none_at m later h.0) ∙ none_lapses later h.1

  one_more : (m : Mark) (later : List Mark) (lapse : Lapse) → IsInTime policy m (until moment later) (ends_chain later)
      → IsFirstLapse policy moment later lapse → IsFirstLapse policy moment (m ∷ later) lapse
  one_more m later lapse h l = record {
    before = m ∷ l.before;
    m = l.m;
    later = l.later;
    are = ap (λ (ms : List Mark). m ∷ ms) l.are;
    in_time = (subst (λ (ms : List Mark). IsInTime policy m (until moment ms) (ends_chain ms)) (sym l.are) h, l.in_time);
    lapses = l.lapses;
  }

  pub first_is : (marks : List Mark) (lapse : Lapse) → first_lapse policy moment marks ≡ Some lapse → IsFirstLapse policy moment marks lapse
  first_is [] lapse e = absurd (none_is_some e)
  first_is (m ∷ later) lapse e = elim (which (lapse_at policy moment m later) (first_lapse policy moment later) lapse e) [
    | inl here ↦ record { before = []; m = m; later = later; are = refl; in_time = tt; lapses = lapses m later lapse here }
    | inr there ↦ one_more m later lapse (in_time m later there.0) (first_is later lapse there.1)
  ]

  found : (before : List Mark) (m : Mark) (later : List Mark) (lapse : Lapse) → AreInTimeBefore policy moment before (m ∷ later)
      → LapsesByKey policy m (until moment later) lapse ⊎ LapsesByHash policy m (until moment later) (ends_chain later) lapse
      → first_lapse policy moment (before ++ m ∷ later) ≡ Some lapse
  found [] m later lapse h l = first (lapse_at policy moment m later) (first_lapse policy moment later) lapse (some_at m later lapse l)
  found (n ∷ before) m later lapse h l =
      second (lapse_at policy moment n (before ++ m ∷ later)) (first_lapse policy moment (before ++ m ∷ later)) (none_at n (before ++ m ∷ later) h.0)
      ∙ found before m later lapse h.1 l

  pub is_first : (marks : List Mark) (lapse : Lapse) → IsFirstLapse policy moment marks lapse → first_lapse policy moment marks ≡ Some lapse
  is_first marks lapse l = ap (first_lapse policy moment) (sym l.are) ∙ found l.before l.m l.later lapse l.in_time l.lapses

pub none_is : (policy : Content) (moment : Moment) (marks : List Mark) → (first_lapse policy moment marks ≡ None) ↔ AreInTime policy moment marks
none_is policy moment marks = (all_in_time policy moment marks, none_lapses policy moment marks)

pub some_is : (policy : Content) (moment : Moment) (marks : List Mark) (lapse : Lapse)
    → (first_lapse policy moment marks ≡ Some lapse) ↔ IsFirstLapse policy moment marks lapse
some_is policy moment marks lapse = (first_is policy moment marks lapse, is_first policy moment marks lapse)

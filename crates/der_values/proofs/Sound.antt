-- What is read of a shape is spelled by its parts.
use Rattle.std.proofs.Common.{◌≡◌, ℕ, zero, suc, ◌≢◌, ◌+◌, ◌%◌, ◌^◌, ◌<◌, ◌≤◌, Bool, true, false, cond, eqb, List, [], ◌∷◌, ◌++◌, length, Option, Some, None, Result, Ok, Err, refl, sym, ap, subst, ◌∙◌, arith, ◌⊎◌, inl, inr}
use Rattle.std.specs.List.{flat_map}
use Rattle.std.proofs.lemmas.Bool.{eqb-true, cases_Bool}
use Rattle.std.proofs.lemmas.List.{append-nil, nil_from_length, length-append}
use Rattle.der_values.specs.declared.fault.DerFault.{DerFault}
use Rattle.der_values.specs.Input.{Input, Item}
use Rattle.der_values.specs.Value.{value}
use Rattle.der_values.specs.Steps.{◌>>=◌, lift}
use Rattle.der_values.specs.Next.{value_at, next_of, expect_of, contents, is_empty, finish_of}
use Rattle.der_values.specs.Shape.{Tags, any_tag, tagged, Check, Shape, nothing_more, unread, required, optional, repeated, checkpoint, depending, Checks, Part, Parts, part, spell_part, spell_optional, spell}
use Rattle.der_values.specs.Reading.{header, starts, optional_of, Reading, at_header, at_end, body, body_optional, read_each, end_of, either, read}
use Rattle.der_values.specs.Grammar.{tag_of, inside_of, item_of, Leading, ValidValue, ValidOptional, ValidAll, Valid}
use Rattle.der_values.proofs.Octets.{IsBytes}
use Rattle.der_values.proofs.Values.{bind_ok, ok_is, value_takes}

-- the front of what was left is a value
pub record Front (input : Input) (v : Item) (after : Input) : Type 0 where
  pub at_place : v.place ≡ input.place
  pub low_tag : v.tag % 32 ≢ 31
  pub short : length v.content < 2 ^ 32
  pub moved : after.place ≡ input.place + length (value v.tag v.content)
  pub parts : input.left ≡ value v.tag v.content ++ after.left
  pub content_fits : IsBytes v.content
  pub rest_fits : IsBytes after.left

next_takes : (input : Input) (v : Item) (after : Input) → IsBytes input.left → next_of input ≡ Ok (v, after) → Front input v after
unfolding next_of
next_takes input v after fits e =
    let b = bind_ok (value_at input.place input.left) _ _ e in
    let t = value_takes input.place input.left b.0.0 b.0.1 fits b.1 in
    let same = ok_is {F = DerFault} _ _ b.2 in
    subst (λ (y : Item × Input). Front input y.0 y.1) same (record { at_place = t.at_place; low_tag = t.low_tag; short = t.short; moved = refl; parts = t.parts; content_fits = t.content_fits; rest_fits = t.rest_fits })

chosen_ok : {A : Type 0} {F : Type 0} (b : Bool) (r : Result A F) (d : F) (y : A) → cond b r (Err d) ≡ Ok y → (b ≡ true) × (r ≡ Ok y)
chosen_ok true r d y e = (refl, e)
chosen_ok false r d y e = absurd cc

abbrev pub HasTag : Tags → ℕ → Type 0
HasTag any_tag tag = Unit {0}
HasTag (tagged t) tag = tag ≡ t

same_spelling : {P : Type 0} (tags : Tags) (tag : ℕ) (text : P → List ℕ) (x : P) → HasTag tags tag → spell_part tags text (part tags tag x) ≡ value tag (text x)
same_spelling any_tag tag text x h = refl
same_spelling (tagged t) tag text x h = ap (λ (n : ℕ). value n (text x)) (sym h)

header_takes : (tags : Tags) (input : Input) (v : Item) (after : Input) → IsBytes input.left → header tags input ≡ Ok (v, after) → Front input v after × HasTag tags v.tag
unfolding expect_of
header_takes any_tag input v after fits e = (next_takes input v after fits e, tt)
header_takes (tagged tag) input v after fits e =
    let b = bind_ok (next_of input) _ _ e in
    let g = chosen_ok (eqb b.0.0.tag tag) _ _ _ b.2 in
    let same = ok_is {F = DerFault} _ _ g.1 in
    subst (λ (y : Item × Input). Front input y.0 y.1 × HasTag (tagged tag) y.0.tag) same (next_takes input b.0.0 b.0.1 fits b.1, eqb-true _ _ g.0)

-- ---- what a reading of P takes, text spells, and it is valid

pub record Taken {P S : Type 0} (Inner : Leading P S) (text : P → List ℕ) (σ : S) (input : Input) (x : P) (τ : S) : Type 0 where
  pub spelled : input.left ≡ text x
  pub valid : Inner σ input.place x τ

abbrev pub Takes : {P S F : Type 0} → (S → Input → Reading P S F) → Leading P S → (P → List ℕ) → Type 0
Takes {P} {S} inner Inner text = (σ : S) (input : Input) (x : P) (τ : S) → IsBytes input.left → inner σ input ≡ Ok (x, τ) → Taken Inner text σ input x τ

lift_ok : {A E F : Type 0} (f : E → F) (r : Result A E) (y : A) → lift f r ≡ Ok y → r ≡ Ok y
lift_ok f (Ok x) y e = cc
lift_ok f (Err d) y e = absurd cc

abbrev some_value : Item × Input → Result (Option Item × Input) DerFault
some_value v = Ok (Some v.0, v.1)

abbrev none_value : Input → Result (Option Item × Input) DerFault
none_value input = Ok (None, input)

ended : (bytes : List ℕ) → (bytes ≡ []) ⊎ (is_empty bytes ≡ false)
ended [] = inl refl
ended (b ∷ bs) = inr refl

shorter : (input : Input) (v : Item) (after : Input) → Front input v after → suc (length after.left) ≤ length input.left
unfolding value
shorter input v after front = omega (arith, ap length front.parts, length-append (value v.tag v.content) after.left)

starts_tag : (tags : Tags) (input : Input) (v : Item) (after : Input) → Front input v after → starts tags input.left ≡ true → HasTag tags v.tag
unfolding value
starts_tag any_tag input v after front e = tt
starts_tag (tagged t) input v after front e = eqb-true _ _ (rw front.parts at e)

same_tag : {P : Type 0} (tags : Tags) (tag : ℕ) (x : P) → HasTag tags tag → tag ≡ tag_of P tags (part tags tag x)
same_tag any_tag tag x h = refl
same_tag (tagged t) tag x h = h

same_inside : {P : Type 0} (tags : Tags) (tag : ℕ) (x : P) → x ≡ inside_of tags (part tags tag x)
same_inside any_tag tag x = refl
same_inside (tagged t) tag x = refl

abbrev item : ℕ → ℕ → List ℕ → Item
item place tag content = record { place = place; tag = tag; content = content }

-- the value that was read is the part's
same_item : {P : Type 0} (tags : Tags) (text : P → List ℕ) (v : Item) (place : ℕ) (x : P) → v.place ≡ place → HasTag tags v.tag → v.content ≡ text x → v ≡ item_of tags text place (part tags v.tag x)
same_item tags text v place x p h c =
    let a = same_tag tags v.tag x h in
    let b : v.content ≡ text (inside_of tags (part tags v.tag x)) = c ∙ ap text (same_inside tags v.tag x) in
    ap (λ (n : ℕ). item n v.tag v.content) p ∙ ap (λ (n : ℕ). item place n v.content) a ∙ ap (item place (tag_of _ tags (part tags v.tag x))) b

-- a value that was read of the front, with its part
pub record Body {C S F P : Type 0} (k : Checks C S F) (tags : Tags) (c : Check C) (Inner : Leading P S) (text : P → List ℕ) (σ : S) (place : ℕ) (v : Item) (q : Part tags P) (τ : S) : Type 0 where
  pub spelled : value v.tag v.content ≡ spell_part tags text q
  pub valid : ValidValue k tags c Inner text σ place q τ

module _ {C S F P : Type 0} (k : Checks C S F) (tags : Tags) (c : Check C) (inner : S → Input → Reading P S F) (text : P → List ℕ) (Inner : Leading P S) (taken : Takes inner Inner text) where
  body_is : (σ : S) (place : ℕ) (v : Item) (σ1 : S) (x : P) (σ2 τ : S) → v.place ≡ place → v.tag % 32 ≢ 31 → length v.content < 2 ^ 32 → HasTag tags v.tag → at_header k c σ v ≡ Ok σ1 → Taken Inner text σ1 (contents v) x σ2 → at_end k c σ2 v ≡ Ok τ → Body k tags c Inner text σ place v (part tags v.tag x) τ
  body_is σ place v σ1 x σ2 τ p low short h e t g =
      let is_item = same_item tags text v place x p h t.spelled in
      record {
        spelled = ap (value v.tag) t.spelled ∙ sym (same_spelling tags v.tag text x h);
        valid = record {
          before = σ1;
          after = σ2;
          low_tag = subst (λ (n : ℕ). n % 32 ≢ 31) (same_tag tags v.tag x h) low;
          short = subst (λ (l : List ℕ). length l < 2 ^ 32) (ap (λ (i : Item). i.content) is_item) short;
          header_passes = subst (λ (i : Item). at_header k c σ i ≡ Ok σ1) is_item e;
          inside = subst (λ (y : P). Inner σ1 (contents (item_of tags text place (part tags v.tag x))).place y σ2) (same_inside tags v.tag x)
              (subst (λ (i : Item). Inner σ1 (contents i).place x σ2) is_item t.valid);
          end_passes = subst (λ (i : Item). at_end k c σ2 i ≡ Ok τ) is_item g;
        };
      }

  body_takes : (σ : S) (input : Input) (v : Item) (after : Input) (q : Part tags P) (τ : S) → Front input v after → HasTag tags v.tag → body k tags c inner σ v ≡ Ok (q, τ) → Body k tags c Inner text σ input.place v q τ
  body_takes σ input v after q τ front h e =
      let a = bind_ok (at_header k c σ v) _ _ e in
      let b = bind_ok (inner a.0 (contents v)) _ _ a.2 in
      let d = bind_ok (at_end k c b.0.1 v) _ _ b.2 in
      let same = ok_is {F = F} _ _ d.2 in
      subst (λ (y : Part tags P × S). Body k tags c Inner text σ input.place v y.0 y.1) same
      (body_is σ input.place v a.0 b.0.0 b.0.1 d.0 front.at_place front.low_tag front.short h a.1 (taken a.0 (contents v) b.0.0 b.0.1 front.content_fits b.1) d.1)

  -- one value of the front
  pub record Step (σ : S) (input : Input) (q : Part tags P) (τ : S) (after : Input) : Type 0 where
    pub spelled : input.left ≡ spell_part tags text q ++ after.left
    pub moved : after.place ≡ input.place + length (spell_part tags text q)
    pub valid : ValidValue k tags c Inner text σ input.place q τ
    pub rest_fits : IsBytes after.left

  step_is : (σ : S) (input : Input) (v : Item) (after : Input) (q : Part tags P) (τ : S) → Front input v after → Body k tags c Inner text σ input.place v q τ → Step σ input q τ after
  step_is σ input v after q τ front b = record {
    spelled = front.parts ∙ ap (λ (t : List ℕ). t ++ after.left) b.spelled;
    moved = front.moved ∙ ap (λ (t : List ℕ). input.place + length t) b.spelled;
    valid = b.valid;
    rest_fits = front.rest_fits;
  }

  -- an optional value of the front
  pub record Maybe (σ : S) (input : Input) (o : Option (Part tags P)) (τ : S) (after : Input) : Type 0 where
    pub spelled : input.left ≡ spell_optional (spell_part tags text) o ++ after.left
    pub moved : after.place ≡ input.place + length (spell_optional (spell_part tags text) o)
    pub valid : ValidOptional (ValidValue k tags c Inner text) (starts tags after.left) σ input.place o τ
    pub rest_fits : IsBytes after.left

  maybe_takes : (σ : S) (input : Input) (o : Option Item) (after : Input) (q : Option (Part tags P)) (τ : S) (b : Bool) → starts tags input.left ≡ b → IsBytes input.left → cond b (next_of input >>= some_value) (none_value input) ≡ Ok (o, after) → body_optional (body k tags c inner) σ o ≡ Ok (q, τ) → Maybe σ input q τ after
  maybe_takes σ input o after q τ false is fits e f =
      let same = ok_is {F = DerFault} _ _ e in
      let g : body_optional (body k tags c inner) σ None ≡ Ok (q, τ) = ap (λ (y : Option Item × Input). body_optional (body k tags c inner) σ y.0) same ∙ f in
      let got = ok_is {F = F} _ _ g in
      let here : Maybe σ input None σ input = record { spelled = refl; moved = omega arith; valid = (is, refl); rest_fits = fits } in
      subst (λ (i : Input). Maybe σ input q τ i) (ap (λ (y : Option Item × Input). y.1) same)
      (subst (λ (y : Option (Part tags P) × S). Maybe σ input y.0 y.1 input) got here)
  maybe_takes σ input o after q τ true is fits e f =
      let a = bind_ok (next_of input) some_value _ e in
      let same = ok_is {F = DerFault} _ _ a.2 in
      let g : body_optional (body k tags c inner) σ (Some a.0.0) ≡ Ok (q, τ) = ap (λ (y : Option Item × Input). body_optional (body k tags c inner) σ y.0) same ∙ f in
      let b = bind_ok (body k tags c inner σ a.0.0) _ _ g in
      let got = ok_is {F = F} _ _ b.2 in
      let front = next_takes input a.0.0 a.0.1 fits a.1 in
      let step = step_is σ input a.0.0 a.0.1 b.0.0 b.0.1 front (body_takes σ input a.0.0 a.0.1 b.0.0 b.0.1 front (starts_tag tags input a.0.0 a.0.1 front is) b.1) in
      let here : Maybe σ input (Some b.0.0) b.0.1 a.0.1 = record { spelled = step.spelled; moved = step.moved; valid = step.valid; rest_fits = step.rest_fits } in
      subst (λ (i : Input). Maybe σ input q τ i) (ap (λ (y : Option Item × Input). y.1) same)
      (subst (λ (y : Option (Part tags P) × S). Maybe σ input y.0 y.1 a.0.1) got here)

  optional_takes : (σ : S) (input : Input) (o : Option Item) (after : Input) (q : Option (Part tags P)) (τ : S) → IsBytes input.left → optional_of tags input ≡ Ok (o, after) → body_optional (body k tags c inner) σ o ≡ Ok (q, τ) → Maybe σ input q τ after
  unfolding optional_of
  optional_takes σ input o after q τ fits e f = maybe_takes σ input o after q τ (starts tags input.left) refl fits e f

  -- values up to the end
  pub record Each (σ : S) (input : Input) (qs : List (Part tags P)) (τ : S) : Type 0 where
    pub spelled : input.left ≡ flat_map (spell_part tags text) qs
    pub valid : ValidAll (ValidValue k tags c Inner text) (spell_part tags text) σ input.place qs τ

  each_more : (σ : S) (input : Input) (q : Part tags P) (σ1 : S) (after : Input) (qs : List (Part tags P)) (τ : S) → Step σ input q σ1 after → Each σ1 after qs τ → Each σ input (q ∷ qs) τ
  each_more σ input q σ1 after qs τ step each = record {
    spelled = step.spelled ∙ ap (λ (t : List ℕ). spell_part tags text q ++ t) each.spelled;
    valid = (σ1, step.valid, subst (λ (n : ℕ). ValidAll (ValidValue k tags c Inner text) (spell_part tags text) σ1 n qs τ) step.moved each.valid);
  }

  repeated_takes : (n : ℕ) (σ : S) (input : Input) (qs : List (Part tags P)) (τ : S) → length input.left ≤ n → IsBytes input.left → read_each k.der tags (body k tags c inner) n σ input ≡ Ok (qs, τ) → Each σ input qs τ
  repeated_takes zero σ input qs τ le fits e =
      subst (λ (y : List (Part tags P) × S). Each σ input y.0 y.1) (ok_is {F = F} _ _ e) (record { spelled = nil_from_length input.left (omega arith); valid = refl })
  repeated_takes (suc n) σ input qs τ le fits e =
      elim (ended input.left) [
        | inl nil ↦
            let g : Ok ([], σ) ≡ Ok (qs, τ) = rw nil at e in
            subst (λ (y : List (Part tags P) × S). Each σ input y.0 y.1) (ok_is {F = F} _ _ g) (record { spelled = nil; valid = refl })
        | inr some ↦
            let g = rw some at e in
            let a = bind_ok (lift k.der (header tags input)) _ _ g in
            let b = bind_ok (body k tags c inner σ a.0.0) _ _ a.2 in
            let d = bind_ok (read_each k.der tags (body k tags c inner) n b.0.1 a.0.1) _ _ b.2 in
            let h = header_takes tags input a.0.0 a.0.1 fits (lift_ok k.der _ _ a.1) in
            let step = step_is σ input a.0.0 a.0.1 b.0.0 b.0.1 h.0 (body_takes σ input a.0.0 a.0.1 b.0.0 b.0.1 h.0 h.1 b.1) in
            let less : length a.0.1.left ≤ n = omega (arith, shorter input a.0.0 a.0.1 h.0) in
            let each = repeated_takes n b.0.1 a.0.1 d.0.0 d.0.1 less h.0.rest_fits d.1 in
            subst (λ (y : List (Part tags P) × S). Each σ input y.0 y.1) (ok_is {F = F} _ _ d.2) (each_more σ input b.0.0 b.0.1 a.0.1 d.0.0 d.0.1 step each)
      ]

-- ---- a whole shape

abbrev pub TakenOf : {C S F : Type 0} → Checks C S F → (s : Shape C) → S → Input → Parts s → S → Type 0
TakenOf k s σ input p τ = Taken (Valid k s) (spell s) σ input p τ

pub takes : {C S F : Type 0} (k : Checks C S F) (s : Shape C) (σ : S) (input : Input) (p : Parts s) (τ : S) → IsBytes input.left → read k s σ input ≡ Ok (p, τ) → TakenOf k s σ input p τ
unfolding read spell Valid finish_of
takes {S = S} {F = F} k nothing_more σ input p τ fits e =
    let a = bind_ok (lift k.der (finish_of input)) _ _ e in
    let b = chosen_ok (is_empty input.left) _ _ _ (lift_ok k.der _ _ a.1) in
    let nil : input.left ≡ [] = elim (ended input.left) [ inl nil ↦ nil | inr some ↦ absurd cc ] in
    record { spelled = nil; valid = ap (λ (y : Unit {0} × S). y.1) (ok_is {F = F} _ _ a.2) }
takes {S = S} {F = F} k unread σ input p τ fits e =
    let same = ok_is {F = F} _ _ e in
    record { spelled = ap (λ (y : List ℕ × S). y.0) same; valid = ap (λ (y : List ℕ × S). y.1) same }
takes {S = S} {F = F} k (required tags c inner next) σ input p τ fits e =
    let a = bind_ok (lift k.der (header tags input)) _ _ e in
    let b = bind_ok (body k tags c (read k inner) σ a.0.0) _ _ a.2 in
    let d = bind_ok (read k next b.0.1 a.0.1) _ _ b.2 in
    let h = header_takes tags input a.0.0 a.0.1 fits (lift_ok k.der _ _ a.1) in
    let step = step_is k tags c (read k inner) (spell inner) (Valid k inner) (takes k inner) σ input a.0.0 a.0.1 b.0.0 b.0.1 h.0
    (body_takes k tags c (read k inner) (spell inner) (Valid k inner) (takes k inner) σ input a.0.0 a.0.1 b.0.0 b.0.1 h.0 h.1 b.1) in
    let others = takes k next b.0.1 a.0.1 d.0.0 d.0.1 step.rest_fits d.1 in
    subst (λ (y : Parts (required tags c inner next) × S). TakenOf k (required tags c inner next) σ input y.0 y.1) (ok_is {F = F} _ _ d.2) (record {
      spelled = step.spelled ∙ ap (λ (t : List ℕ). spell_part tags (spell inner) b.0.0 ++ t) others.spelled;
      valid = (b.0.1, step.valid, subst (λ (n : ℕ). Valid k next b.0.1 n d.0.0 d.0.1) step.moved others.valid);
    })
takes {S = S} {F = F} k (optional tags c inner next) σ input p τ fits e =
    let a = bind_ok (lift k.der (optional_of tags input)) _ _ e in
    let b = bind_ok (body_optional (body k tags c (read k inner)) σ a.0.0) _ _ a.2 in
    let d = bind_ok (read k next b.0.1 a.0.1) _ _ b.2 in
    let step = optional_takes k tags c (read k inner) (spell inner) (Valid k inner) (takes k inner) σ input a.0.0 a.0.1 b.0.0 b.0.1 fits (lift_ok k.der _ _ a.1) b.1 in
    let others = takes k next b.0.1 a.0.1 d.0.0 d.0.1 step.rest_fits d.1 in
    subst (λ (y : Parts (optional tags c inner next) × S). TakenOf k (optional tags c inner next) σ input y.0 y.1) (ok_is {F = F} _ _ d.2) (record {
      spelled = step.spelled ∙ ap (λ (t : List ℕ). spell_optional (spell_part tags (spell inner)) b.0.0 ++ t) others.spelled;
      valid = (b.0.1, subst (λ (l : List ℕ). ValidOptional (ValidValue k tags c (Valid k inner) (spell inner)) (starts tags l) σ input.place b.0.0 b.0.1) others.spelled step.valid, subst (λ (n : ℕ). Valid k next b.0.1 n d.0.0 d.0.1) step.moved others.valid);
    })
takes {S = S} {F = F} k (repeated tags c inner next) σ input p τ fits e =
    let a = bind_ok (read_each k.der tags (body k tags c (read k inner)) (length input.left) σ input) _ _ e in
    let d = bind_ok (read k next a.0.1 (end_of input)) _ _ a.2 in
    let each = repeated_takes k tags c (read k inner) (spell inner) (Valid k inner) (takes k inner) (length input.left) σ input a.0.0 a.0.1 (omega arith) fits a.1 in
    let others = takes k next a.0.1 (end_of input) d.0.0 d.0.1 (λ i. omega arith) d.1 in
    let text = flat_map (spell_part tags (spell inner)) a.0.0 in
    subst (λ (y : Parts (repeated tags c inner next) × S). TakenOf k (repeated tags c inner next) σ input y.0 y.1) (ok_is {F = F} _ _ d.2) (record {
      spelled = each.spelled ∙ sym (append-nil text) ∙ ap (λ (t : List ℕ). text ++ t) others.spelled;
      valid = (a.0.1, each.valid, sym others.spelled, subst (λ (l : List ℕ). Valid k next a.0.1 (input.place + length l) d.0.0 d.0.1) each.spelled others.valid);
    })
takes {S = S} k (checkpoint c next) σ input p τ fits e =
    let a = bind_ok (k.at_point c σ input) _ _ e in
    let others = takes k next a.0 input p τ fits a.2 in
    record { spelled = others.spelled; valid = (a.0, subst (λ (l : List ℕ). k.at_point c σ (record { place = input.place; left = l }) ≡ Ok a.0) others.spelled a.1, others.valid) }
takes {S = S} {F = F} k (depending c x y) σ input p τ fits e =
    elim (cases_Bool (k.holds c σ)) [
      | inl held ↦
          let g : either inl (read k x σ input) ≡ Ok (p, τ) = rw held at e in
          let a = bind_ok (read k x σ input) _ _ g in
          let t = takes k x σ input a.0.0 a.0.1 fits a.1 in
          subst (λ (z : Parts (depending c x y) × S). TakenOf k (depending c x y) σ input z.0 z.1) (ok_is {F = F} _ _ a.2) (record { spelled = t.spelled; valid = (held, t.valid) })
      | inr failed ↦
          let g : either inr (read k y σ input) ≡ Ok (p, τ) = rw failed at e in
          let a = bind_ok (read k y σ input) _ _ g in
          let t = takes k y σ input a.0.0 a.0.1 fits a.1 in
          subst (λ (z : Parts (depending c x y) × S). TakenOf k (depending c x y) σ input z.0 z.1) (ok_is {F = F} _ _ a.2) (record { spelled = t.spelled; valid = (failed, t.valid) })
    ]

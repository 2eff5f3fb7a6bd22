-- What valid parts spell is read as these parts.
use Rattle.std.proofs.Common.{◌≡◌, ◌≢◌, ℕ, zero, suc, ◌+◌, ◌%◌, ◌^◌, ◌<◌, ◌≤◌, Bool, true, false, List, [], ◌∷◌, ◌++◌, length, Option, Some, None, Ok, refl, ap, subst, ◌∙◌, arith, inl, inr}
use Rattle.std.specs.List.{flat_map}
use Rattle.std.specs.Option.{option_map}
use Rattle.std.proofs.lemmas.Bool.{eq-eqb}
use Rattle.std.proofs.lemmas.List.{append-nil, length-append}
use Rattle.der_values.specs.Input.{Input}
use Rattle.der_values.specs.Value.{value}
use Rattle.der_values.specs.Next.{next_of, expect_of, contents, is_empty, finish_of}
use Rattle.der_values.specs.Shape.{Tags, any_tag, tagged, Check, Shape, nothing_more, unread, required, optional, repeated, checkpoint, depending, Checks, Part, Parts, part, spell_part, spell_optional, spell}
use Rattle.der_values.specs.Reading.{header, starts, optional_of, Reading, body, body_optional, read_each, read}
use Rattle.der_values.specs.Grammar.{tag_of, inside_of, item_of, Leading, ValidValue, ValidOptional, ValidAll, Valid}
use Rattle.der_values.proofs.Values.{value_again}

pub next_again : (place tag : ℕ) (content more : List ℕ) → tag % 32 ≢ 31 → length content < 2 ^ 32
    → next_of (record { place = place; left = value tag content ++ more }) ≡ Ok (record { place = place; tag = tag; content = content }, record { place = place + length (value tag content); left = more })
unfolding next_of
next_again place tag content more low short = rw (value_again place tag content more low short) refl

same_part : (P : Type 0) (tags : Tags) (q : Part tags P) → part tags (tag_of P tags q) (inside_of tags q) ≡ q
same_part P any_tag q = refl
same_part P (tagged t) q = refl

header_again : {P : Type 0} (tags : Tags) (text : P → List ℕ) (place : ℕ) (q : Part tags P) (more : List ℕ) → tag_of P tags q % 32 ≢ 31 → length (text (inside_of tags q)) < 2 ^ 32
    → header tags (record { place = place; left = spell_part tags text q ++ more }) ≡ Ok (item_of tags text place q, record { place = place + length (spell_part tags text q); left = more })
unfolding expect_of
header_again {P} any_tag text place q more low short = next_again place q.0 (text q.1) more low short
header_again {P} (tagged t) text place q more low short =
    let same = eq-eqb t t refl in
    rw (next_again place t (text q) more low short, same) refl

header_next : {P : Type 0} (tags : Tags) (text : P → List ℕ) (place : ℕ) (q : Part tags P) (more : List ℕ) → tag_of P tags q % 32 ≢ 31 → length (text (inside_of tags q)) < 2 ^ 32
    → next_of (record { place = place; left = spell_part tags text q ++ more }) ≡ Ok (item_of tags text place q, record { place = place + length (spell_part tags text q); left = more })
header_next any_tag text place q more low short = next_again place q.0 (text q.1) more low short
header_next (tagged t) text place q more low short = next_again place t (text q) more low short

shorter_rest : {P : Type 0} (tags : Tags) (text : P → List ℕ) (q : Part tags P) (more : List ℕ) → length more < length (spell_part tags text q ++ more)
unfolding value
shorter_rest any_tag text q more = omega (arith, length-append (value q.0 (text q.1)) more)
shorter_rest (tagged t) text q more = omega (arith, length-append (value t (text q)) more)

starts_part : {P : Type 0} (tags : Tags) (text : P → List ℕ) (q : Part tags P) (more : List ℕ) → starts tags (spell_part tags text q ++ more) ≡ true
unfolding value
starts_part any_tag text q more = refl
starts_part (tagged t) text q more = eq-eqb t t refl

filled_part : {P : Type 0} (tags : Tags) (text : P → List ℕ) (q : Part tags P) (more : List ℕ) → is_empty (spell_part tags text q ++ more) ≡ false
unfolding value
filled_part any_tag text q more = refl
filled_part (tagged t) text q more = refl

module _ {C S F P : Type 0} (k : Checks C S F) (tags : Tags) (c : Check C) (inner : S → Input → Reading P S F) (text : P → List ℕ) (Inner : Leading P S)
    (again : (σ : S) (place : ℕ) (p : P) (τ : S) → Inner σ place p τ → inner σ (record { place = place; left = text p }) ≡ Ok (p, τ)) where
  body_again : (σ : S) (place : ℕ) (q : Part tags P) (τ : S) → ValidValue k tags c Inner text σ place q τ → body k tags c inner σ (item_of tags text place q) ≡ Ok (q, τ)
  body_again σ place q τ v =
      let e = again v.before (contents (item_of tags text place q)).place (inside_of tags q) v.after v.inside in
      rw (v.header_passes, e, v.end_passes) (ap (λ (x : Part tags P). Ok (x, τ)) (same_part P tags q))

  low_of : (σ : S) (place : ℕ) (o : Option (Part tags P)) (more : List ℕ) (τ : S) → ValidOptional (ValidValue k tags c Inner text) (starts tags more) σ place o τ
      → optional_of tags (record { place = place; left = spell_optional (spell_part tags text) o ++ more }) ≡ Ok (option_map (item_of tags text place) o, record { place = place + length (spell_optional (spell_part tags text) o); left = more })
  unfolding optional_of
  low_of σ place None more τ v =
      let absent = v.0 in
      let same : place + 0 ≡ place = omega arith in
      rw (absent, same) refl
  low_of σ place (Some q) more τ v =
      let here = starts_part tags text q more in
      rw (here, header_next tags text place q more v.low_tag v.short) refl

  optional_again : (σ : S) (place : ℕ) (taken : Bool) (o : Option (Part tags P)) (τ : S) → ValidOptional (ValidValue k tags c Inner text) taken σ place o τ
      → body_optional (body k tags c inner) σ (option_map (item_of tags text place) o) ≡ Ok (o, τ)
  optional_again σ place taken None τ v = ap (λ (x : S). Ok (None, x)) v.1
  optional_again σ place taken (Some q) τ v = rw (body_again σ place q τ v) refl

  repeated_again : (n : ℕ) (σ : S) (place : ℕ) (qs : List (Part tags P)) (τ : S) → length (flat_map (spell_part tags text) qs) ≤ n → ValidAll (ValidValue k tags c Inner text) (spell_part tags text) σ place qs τ
      → read_each k.der tags (body k tags c inner) n σ (record { place = place; left = flat_map (spell_part tags text) qs }) ≡ Ok (qs, τ)
  repeated_again zero σ place [] τ le v = ap (λ (x : S). Ok ([], x)) v
  repeated_again zero σ place (q ∷ qs) τ le v =
      let some = shorter_rest tags text q (flat_map (spell_part tags text) qs) in
      absurd (omega (arith, some))
  repeated_again (suc n) σ place [] τ le v = ap (λ (x : S). Ok ([], x)) v
  repeated_again (suc n) σ place (q ∷ qs) τ le v =
      let here = filled_part tags text q (flat_map (spell_part tags text) qs) in
      let some = shorter_rest tags text q (flat_map (spell_part tags text) qs) in
      let first = header_again tags text place q (flat_map (spell_part tags text) qs) v.1.low_tag v.1.short in
      let second = body_again σ place q v.0 v.1 in
      let third = repeated_again n v.0 (place + length (spell_part tags text q)) qs τ (omega (arith, some)) v.2 in
      rw (here, first, second, third) refl

pub again : {C S F : Type 0} (k : Checks C S F) (s : Shape C) (σ : S) (place : ℕ) (p : Parts s) (τ : S) → Valid k s σ place p τ → read k s σ (record { place = place; left = spell s p }) ≡ Ok (p, τ)
unfolding read spell Valid finish_of
again {S = S} k nothing_more σ place p τ v = ap (λ (x : S). Ok (p, x)) v
again {S = S} k unread σ place p τ v = ap (λ (x : S). Ok (p, x)) v
again k (required tags c inner next) σ place p τ v =
    let first = header_again tags (spell inner) place p.0 (spell next p.1) v.1.low_tag v.1.short in
    let second = body_again k tags c (read k inner) (spell inner) (Valid k inner) (again k inner) σ place p.0 v.0 v.1 in
    let third = again k next v.0 (place + length (spell_part tags (spell inner) p.0)) p.1 τ v.2 in
    rw (first, second, third) refl
again k (optional tags c inner next) σ place p τ v =
    let first = low_of k tags c (read k inner) (spell inner) (Valid k inner) (again k inner) σ place p.0 (spell next p.1) v.0 v.1 in
    let second = optional_again k tags c (read k inner) (spell inner) (Valid k inner) (again k inner) σ place (starts tags (spell next p.1)) p.0 v.0 v.1 in
    let third = again k next v.0 (place + length (spell_optional (spell_part tags (spell inner)) p.0)) p.1 τ v.2 in
    rw (first, second, third) refl
again {S = S} k (repeated tags c inner next) σ place p τ v =
    let all = flat_map (spell_part tags (spell inner)) p.0 in
    let nothing : spell next p.1 ≡ [] = v.2 in
    let whole : all ++ spell next p.1 ≡ all = rw nothing (append-nil all) in
    let first = repeated_again k tags c (read k inner) (spell inner) (Valid k inner) (again k inner) (length all) σ place p.0 v.0 (omega arith) v.1 in
    let second : read k next v.0 (record { place = place + length all; left = [] }) ≡ Ok (p.1, τ) = subst (λ (l : List ℕ). read k next v.0 (record { place = place + length all; left = l }) ≡ Ok (p.1, τ)) nothing (again k next v.0 (place + length all) p.1 τ v.3) in
    ap (λ (l : List ℕ). read k (repeated tags c inner next) σ (record { place = place; left = l })) whole ∙ rw (first, second) refl
again k (checkpoint c next) σ place p τ v =
    let first = v.1 in
    let second = again k next v.0 place p τ v.2 in
    rw (first, second) refl
again k (depending c a b) σ place (inl p) τ v =
    let first = v.0 in
    let second = again k a σ place p τ v.1 in
    rw (first, second) refl
again k (depending c a b) σ place (inr p) τ v =
    let first = v.0 in
    let second = again k b σ place p τ v.1 in
    rw (first, second) refl

-- Parts that are valid at each place, where their text is short enough: how those of a shape come from those inside.
use Rattle.std.proofs.Common.{◌≡◌, ◌≢◌, ℕ, ◌%◌, ◌^◌, ◌<◌, true, false, List, [], ◌∷◌, length, Option, Some, None, Ok, refl, arith, length-append}
use Rattle.std.specs.Prelude.{IfSome}
use Rattle.std.specs.List.{flat_map}
use mathlib.Core.Logic.{inl, inr}
use Rattle.der_values.specs.Value.{value, bytes_or_none}
use Rattle.der_values.specs.Shape.{Tags, tagged, Check, Shape, nothing_more, unread, required, optional, repeated, checkpoint, depending, Checks, Parts, spell}
use Rattle.der_values.specs.Reading.{at_header, at_end, starts}
use Rattle.der_values.specs.Grammar.{ValidValue, ValidAll, Valid}
use Rattle.der_values.specs.Algorithm.{Name, algorithm_shape, IsName}
use Rattle.der_values.proofs.Lengths.{content_shorter, first_shorter}
use Rattle.der_values.proofs.Written.{item, name_parts, name_spelled, name_valid}

module _ {C S F : Type 0} (k : Checks C S F) where
  abbrev pub IsShort : (s : Shape C) → Parts s → Type 0
  IsShort s p = length (spell s p) < 2 ^ 32

  abbrev pub Anywhere : (s : Shape C) → S → Parts s → S → Type 0
  Anywhere s σ p τ = IsShort s p → (place : ℕ) → Valid k s σ place p τ

  pub nothing_valid : (σ : S) → Anywhere nothing_more σ tt σ
  unfolding Valid
  nothing_valid σ short place = refl

  pub unread_valid : (σ : S) (p : List ℕ) → Anywhere unread σ p σ
  unfolding Valid
  unread_valid σ p short place = refl

  -- the check of a value whose contents are these
  abbrev pub PassesHeader : ℕ → Check C → S → List ℕ → S → Type 0
  PassesHeader tag c σ content before = (place : ℕ) → at_header k c σ (item place tag content) ≡ Ok before

  abbrev pub PassesEnd : ℕ → Check C → S → List ℕ → S → Type 0
  PassesEnd tag c σ content τ = (place : ℕ) → at_end k c σ (item place tag content) ≡ Ok τ

  abbrev pub AnyValue : (tag : ℕ) (c : Check C) (inner : Shape C) → S → Parts inner → S → Type 0
  AnyValue tag c inner σ p τ = length (spell inner p) < 2 ^ 32 → (place : ℕ) → ValidValue k (tagged tag) c (Valid k inner) (spell inner) σ place p τ

  pub value_anywhere : (tag : ℕ) (c : Check C) (inner : Shape C) (σ before after τ : S) (p : Parts inner) → tag % 32 ≢ 31
      → PassesHeader tag c σ (spell inner p) before → Anywhere inner before p after → PassesEnd tag c after (spell inner p) τ
      → AnyValue tag c inner σ p τ
  value_anywhere tag c inner σ before after τ p low head inside tail short place = record {
    before = before;
    after = after;
    low_tag = low;
    short = short;
    header_passes = head place;
    inside = inside short _;
    end_passes = tail place;
  }

  -- a value, and what follows it
  pub required_valid : (tag : ℕ) (c : Check C) (inner next : Shape C) (σ σ1 τ : S) (p : Parts inner) (q : Parts next)
      → AnyValue tag c inner σ p σ1 → Anywhere next σ1 q τ → Anywhere (required (tagged tag) c inner next) σ (p, q) τ
  unfolding Valid spell
  required_valid tag c inner next σ σ1 τ p q one more short place =
      let text = value tag (spell inner p) in
      let joined = length-append text (spell next q) in
      (σ1, one (omega (arith, short, joined, content_shorter tag (spell inner p))) place, more (omega (arith, short, joined)) _)

  -- one that is absent
  pub absent_valid : (tags : Tags) (c : Check C) (inner next : Shape C) (σ τ : S) (q : Parts next)
      → starts tags (spell next q) ≡ false → Anywhere next σ q τ → Anywhere (optional tags c inner next) σ (None, q) τ
  unfolding Valid spell
  absent_valid tags c inner next σ τ q absent more short place = (σ, (absent, refl), more short _)

  -- one that may be absent, and keeps the state
  pub optional_valid : (tag : ℕ) (c : Check C) (inner next : Shape C) (σ τ : S) (o : Option (Parts inner)) (q : Parts next)
      → IfSome o (λ p. AnyValue tag c inner σ p σ) → starts (tagged tag) (spell next q) ≡ false → Anywhere next σ q τ → Anywhere (optional (tagged tag) c inner next) σ (o, q) τ
  unfolding Valid spell
  optional_valid tag c inner next σ τ None q one absent more short place = (σ, (absent, refl), more short _)
  optional_valid tag c inner next σ τ (Some p) q one absent more short place =
      let text = value tag (spell inner p) in
      let joined = length-append text (spell next q) in
      (σ, one (omega (arith, short, joined, content_shorter tag (spell inner p))) place, more (omega (arith, short, joined)) _)

  -- a check between two values
  pub checkpoint_valid : (c : C) (next : Shape C) (σ σ1 τ : S) (p : Parts next)
      → ((place : ℕ) → k.at_point c σ (record { place = place; left = spell next p }) ≡ Ok σ1) → Anywhere next σ1 p τ → Anywhere (checkpoint c next) σ p τ
  unfolding Valid spell
  checkpoint_valid c next σ σ1 τ p passes more short place = (σ1, passes place, more short place)

  -- a choice
  pub first_valid : (c : C) (a b : Shape C) (σ τ : S) (p : Parts a) → k.holds c σ ≡ true → Anywhere a σ p τ → Anywhere (depending c a b) σ (inl p) τ
  unfolding Valid spell
  first_valid c a b σ τ p holds valid short place = (holds, valid short place)

  pub second_valid : (c : C) (a b : Shape C) (σ τ : S) (p : Parts b) → k.holds c σ ≡ false → Anywhere b σ p τ → Anywhere (depending c a b) σ (inr p) τ
  unfolding Valid spell
  second_valid c a b σ τ p fails valid short place = (fails, valid short place)

  -- a value whose contents are not read
  pub leaf_anywhere : (tag : ℕ) (c : Check C) (σ before τ : S) (content : List ℕ) → tag % 32 ≢ 31 → PassesHeader tag c σ content before → PassesEnd tag c before content τ
      → AnyValue tag c unread σ content τ
  unfolding Valid spell
  leaf_anywhere tag c σ before τ content low head tail short place = record {
    before = before;
    after = before;
    low_tag = low;
    short = short;
    header_passes = head place;
    inside = refl;
    end_passes = tail place;
  }

  -- an AlgorithmIdentifier: its contents
  pub name_anywhere : (σ : S) (name : Name) (is : IsName name) → Anywhere algorithm_shape σ (name_parts name is) σ
  name_anywhere σ name is short place = name_valid k σ name is place (first_shorter 6 name.oid (bytes_or_none name.params) (2 ^ 32) (rw (name_spelled C name is) at short))

  -- values of one tag, one behind the other
  module _ (tag : ℕ) (c : Check C) (inner : Shape C) where
    abbrev pub AllValues : S → List (Parts inner) → S → Type 0
    AllValues σ [] τ = σ ≡ τ
    AllValues σ (p ∷ ps) τ = (σ1 : S) × AnyValue tag c inner σ p σ1 × AllValues σ1 ps τ

    abbrev text : Parts inner → List ℕ
    text p = value tag (spell inner p)

    all_valid : (σ τ : S) (ps : List (Parts inner)) → AllValues σ ps τ → length (flat_map text ps) < 2 ^ 32 → (place : ℕ)
        → ValidAll (ValidValue k (tagged tag) c (Valid k inner) (spell inner)) text σ place ps τ
    all_valid σ τ [] v short place = v
    all_valid σ τ (p ∷ ps) v short place =
        let joined = length-append (text p) (flat_map text ps) in
        (v.0, v.1 (omega (arith, short, joined, content_shorter tag (spell inner p))) place, all_valid v.0 τ ps v.2 (omega (arith, short, joined)) _)

    pub repeated_valid : (next : Shape C) (σ σ1 τ : S) (ps : List (Parts inner)) (q : Parts next) → AllValues σ ps σ1 → spell next q ≡ [] → Anywhere next σ1 q τ
        → Anywhere (repeated (tagged tag) c inner next) σ (ps, q) τ
    unfolding Valid spell
    repeated_valid next σ σ1 τ ps q all none more short place =
        let joined = length-append (flat_map text ps) (spell next q) in
        (σ1, all_valid σ σ1 ps all (omega (arith, short, joined)) place, none, more (omega (arith, short, joined)) _)

-- The grammar of a shape, apart from its reading: which parts have a spelling, and what bytes mean by it.
use Rattle.std.specs.Prelude.{◌≡◌, ◌≢◌, ℕ, ◌+◌, ◌%◌, ◌^◌, ◌<◌, Bool, true, false, List, [], ◌∷◌, length, Option, Some, None, Ok}
use Rattle.std.specs.List.{flat_map}
use mathlib.Core.Logic.{inl, inr}
use Rattle.der_values.specs.Input.{Input, Item}
use Rattle.der_values.specs.Next.{contents}
use Rattle.der_values.specs.Shape.{Tags, any_tag, tagged, Check, Shape, nothing_more, unread, required, optional, repeated, checkpoint, depending, Checks, Part, Parts, spell_part, spell_optional, spell}
use Rattle.der_values.specs.Reading.{starts, at_header, at_end}

-- the tag of a part: that of the shape, or its own where the shape leaves it open
abbrev pub tag_of : (P : Type 0) → (tags : Tags) → Part tags P → ℕ
tag_of P any_tag q = q.0
tag_of P (tagged tag) q = tag

-- the contents of a part, without its tag
abbrev pub inside_of : {P : Type 0} → (tags : Tags) → Part tags P → P
inside_of any_tag q = q.1
inside_of (tagged tag) q = q

-- the value that a part is at a place
abbrev pub item_of : {P : Type 0} → (tags : Tags) → (P → List ℕ) → ℕ → Part tags P → Item
item_of {P} tags text place q = record { place = place; tag = tag_of P tags q; content = text (inside_of tags q) }

-- from a state, parts at a place lead to a state
abbrev pub Leading : Type 0 → Type 0 → Type 1
Leading P S = S → ℕ → P → S → Type 0

-- A value has a spelling where its tag is one octet, its contents are below 2 ^ 32 bytes and valid, and its check passes.
pub record ValidValue {C S F P : Type 0} (k : Checks C S F) (tags : Tags) (c : Check C) (Inner : Leading P S) (text : P → List ℕ) (σ : S) (place : ℕ) (q : Part tags P) (τ : S) : Type 0 where
  pub before : S
  pub after : S
  pub low_tag : tag_of P tags q % 32 ≢ 31
  pub short : length (text (inside_of tags q)) < 2 ^ 32
  pub header_passes : at_header k c σ (item_of tags text place q) ≡ Ok before
  pub inside : Inner before (contents (item_of tags text place q)).place (inside_of tags q) after
  pub end_passes : at_end k c after (item_of tags text place q) ≡ Ok τ

-- An absent part is not to be taken for one that is there.
abbrev pub ValidOptional : {Q S : Type 0} → Leading Q S → Bool → Leading (Option Q) S
ValidOptional V taken σ place None τ = (taken ≡ false) × (σ ≡ τ)
ValidOptional V taken σ place (Some q) τ = V σ place q τ

-- each part is valid, from the place and the state where the one before ended
abbrev pub ValidAll : {Q S : Type 0} → Leading Q S → (Q → List ℕ) → S → ℕ → List Q → S → Type 0
ValidAll V text σ place [] τ = σ ≡ τ
ValidAll {S = S} V text σ place (q ∷ qs) τ = (σ1 : S) × V σ place q σ1 × ValidAll V text σ1 (place + length (text q)) qs τ

-- from a state, these parts of a shape have a spelling at a place, and lead to a state
unfoldable pub Valid : {C S F : Type 0} → Checks C S F → (s : Shape C) → S → ℕ → Parts s → S → Type 0
Valid k nothing_more σ place p τ = σ ≡ τ
Valid k unread σ place p τ = σ ≡ τ
Valid {S = S} k (required tags c inner next) σ place p τ =
    let text = spell_part tags (spell inner) in
    (σ1 : S) × ValidValue k tags c (Valid k inner) (spell inner) σ place p.0 σ1 × Valid k next σ1 (place + length (text p.0)) p.1 τ
Valid {S = S} k (optional tags c inner next) σ place p τ =
    let text = spell_part tags (spell inner) in
    (σ1 : S) × ValidOptional (ValidValue k tags c (Valid k inner) (spell inner)) (starts tags (spell next p.1)) σ place p.0 σ1 × Valid k next σ1 (place + length (spell_optional text p.0)) p.1 τ
Valid {S = S} k (repeated tags c inner next) σ place p τ =
    let text = spell_part tags (spell inner) in
    (σ1 : S) × ValidAll (ValidValue k tags c (Valid k inner) (spell inner)) text σ place p.0 σ1 × (spell next p.1 ≡ []) × Valid k next σ1 (place + length (flat_map text p.0)) p.1 τ
Valid {S = S} k (checkpoint c next) σ place p τ = (σ1 : S) × (k.at_point c σ (record { place = place; left = spell next p }) ≡ Ok σ1) × Valid k next σ1 place p τ
Valid k (depending c a b) σ place (inl p) τ = (k.holds c σ ≡ true) × Valid k a σ place p τ
Valid k (depending c a b) σ place (inr p) τ = (k.holds c σ ≡ false) × Valid k b σ place p τ

-- The input is in the grammar of the shape, for some contents of what is not named, and v is what f names.
pub record Means {C S F V : Type 0} (k : Checks C S F) (s : Shape C) (σ : S) (f : Parts s → S → V) (input : Input) (v : V) : Type 0 where
  pub parts : Parts s
  pub state : S
  pub valid : Valid k s σ input.place parts state
  pub spelled : input.left ≡ spell s parts
  pub named : f parts state ≡ v

-- all of the bytes, from place 0
abbrev pub from_start : List ℕ → Input
from_start bytes = record { place = 0; left = bytes }

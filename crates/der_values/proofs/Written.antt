-- Parts that a writer has: they are valid, so what they spell is read again.
use Rattle.std.proofs.Common.{◌≡◌, ◌≢◌, ℕ, ◌%◌, ◌^◌, ◌<◌, List, [], ◌∷◌, ◌++◌, length, Option, Some, None, Result, Ok, refl, sym, ap, ◌∙◌, arith}
use Rattle.std.specs.Prelude.{IfSome}
use Rattle.std.specs.Option.{option_map}
use Rattle.std.proofs.lemmas.List.{append-nil}
use Rattle.der_values.specs.declared.fault.DerFault.{DerFault}
use Rattle.der_values.specs.Input.{Item}
use Rattle.der_values.specs.Value.{value, bytes_or_none}
use Rattle.der_values.specs.Typed.{integer_of, oid_of, IsInteger, IsOid, IsOneValue}
use Rattle.der_values.specs.Shape.{any_tag, tagged, Check, unchecked, is_integer, is_oid, Shape, nothing_more, unread, optional, Checks, spell}
use Rattle.der_values.specs.Reading.{at_header, at_end, passes}
use Rattle.der_values.specs.Grammar.{ValidValue, Valid}
use Rattle.der_values.specs.Algorithm.{Name, name_of, AlgorithmParts, algorithm_shape, IsName, name_contents}

abbrev pub item : ℕ → ℕ → List ℕ → Item
item place tag content = record { place = place; tag = tag; content = content }

-- ---- what a value of a type may be passes its check

pub integer_passes : (place : ℕ) (content : List ℕ) → IsInteger content → integer_of (item place 2 content) ≡ Ok content
unfolding integer_of
integer_passes place [] is = absurd (is.some refl)
integer_passes place (b ∷ bs) is = rw is.fewest refl

pub oid_passes : (place : ℕ) (content : List ℕ) → IsOid content → oid_of (item place 6 content) ≡ Ok content
unfolding oid_of
oid_passes place [] is = absurd (is.some refl)
oid_passes place (b ∷ bs) is = rw is.whole refl

-- ---- the parameters of an algorithm

pub params_part : (o : Option (List ℕ)) → IfSome o IsOneValue → Option (ℕ × List ℕ)
params_part None is = None
params_part (Some bytes) is = Some (is.tag, is.content)

pub params_named : (o : Option (List ℕ)) (is : IfSome o IsOneValue) → option_map (λ (v : ℕ × List ℕ). value v.0 v.1) (params_part o is) ≡ o
unfolding params_part
params_named None is = refl
params_named (Some bytes) is = ap Some (sym is.spells.is)

abbrev pub params_shape : {C : Type 0} → Shape C
params_shape = optional any_tag unchecked unread nothing_more

params_spelled : (C : Type 0) (o : Option (List ℕ)) (is : IfSome o IsOneValue) → spell {C = C} params_shape (params_part o is, tt) ≡ bytes_or_none o
unfolding params_part spell
params_spelled C None is = refl
params_spelled C (Some bytes) is = append-nil (value is.tag is.content) ∙ sym is.spells.is

-- the parts of a name that has a spelling
abbrev pub name_parts : (name : Name) → IsName name → AlgorithmParts
name_parts name is = (name.oid, (params_part name.params is.params, tt))

pub name_named : (name : Name) (is : IsName name) → name_of (name_parts name is) ≡ name
name_named name is i = record { oid = name.oid; params = params_named name.params is.params i }

pub name_spelled : (C : Type 0) (name : Name) (is : IsName name) → spell {C = C} algorithm_shape (name_parts name is) ≡ name_contents name
unfolding spell
name_spelled C name is = ap (λ params. value 6 name.oid ++ params) (params_spelled C name.params is.params)

-- ---- under any checks

module _ {C S F : Type 0} (k : Checks C S F) where
  -- a value whose contents are not read, with any check that it passes
  pub value_valid : (tag : ℕ) (c : Check C) (σ before τ : S) (place : ℕ) (content : List ℕ) → tag % 32 ≢ 31 → length content < 2 ^ 32
      → at_header k c σ (item place tag content) ≡ Ok before → at_end k c before (item place tag content) ≡ Ok τ
      → ValidValue k (tagged tag) c (Valid k unread) (spell {C = C} unread) σ place content τ
  unfolding Valid spell
  value_valid tag c σ before τ place content low short h e = record { before = before; after = before; low_tag = low; short = short; header_passes = h; inside = refl; end_passes = e }

  passed : {A : Type 0} (σ : S) (r : Result A DerFault) (x : A) → r ≡ Ok x → passes k.der σ r ≡ Ok σ
  passed σ r x e = rw e refl

  -- an OBJECT IDENTIFIER
  pub oid_valid : (σ : S) (place : ℕ) (content : List ℕ) → length content < 2 ^ 32 → oid_of (item place 6 content) ≡ Ok content
      → ValidValue k (tagged 6) is_oid (Valid k unread) (spell {C = C} unread) σ place content σ
  oid_valid σ place content short is = value_valid 6 is_oid σ σ σ place content (λ e. omega arith) short (passed σ _ content is) refl

  -- an INTEGER
  pub integer_valid : (σ : S) (place : ℕ) (content : List ℕ) → length content < 2 ^ 32 → integer_of (item place 2 content) ≡ Ok content
      → ValidValue k (tagged 2) is_integer (Valid k unread) (spell {C = C} unread) σ place content σ
  integer_valid σ place content short is = value_valid 2 is_integer σ σ σ place content (λ e. omega arith) short (passed σ _ content is) refl

  pub params_valid : (σ : S) (o : Option (List ℕ)) (is : IfSome o IsOneValue) (place : ℕ) → Valid k params_shape σ place (params_part o is, tt) σ
  unfolding params_part Valid spell
  params_valid σ None is place = (σ, (refl, refl), refl)
  params_valid σ (Some bytes) is place = (σ, record { before = σ; after = σ; low_tag = is.spells.low_tag; short = is.spells.short; header_passes = refl; inside = refl; end_passes = refl }, refl)

  -- an AlgorithmIdentifier: its contents
  pub name_valid : (σ : S) (name : Name) (is : IsName name) (place : ℕ) → length name.oid < 2 ^ 32 → Valid k algorithm_shape σ place (name_parts name is) σ
  unfolding Valid spell
  name_valid σ name is place short = (σ, oid_valid σ place name.oid short (oid_passes place name.oid is.oid), params_valid σ name.params is.params _)

  -- one without parameters
  pub algorithm_valid : (σ : S) (place : ℕ) (oid : List ℕ) → length oid < 2 ^ 32 → oid_of (item place 6 oid) ≡ Ok oid → Valid k algorithm_shape σ place (oid, (None, tt)) σ
  unfolding Valid spell
  algorithm_valid σ place oid short is = (σ, oid_valid σ place oid short is, (σ, (refl, refl), refl))

pub algorithm_text : (C : Type 0) (oid : List ℕ) → spell {C = C} algorithm_shape (oid, (None, tt)) ≡ value 6 oid
unfolding spell
algorithm_text C oid = append-nil (value 6 oid)

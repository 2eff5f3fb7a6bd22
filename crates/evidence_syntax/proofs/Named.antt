-- Parts of an evidence record that are valid are what is named of parts of the table, which are valid there.
use Rattle.std.proofs.Common.{◌≡◌, ◌≢◌, ℕ, ◌%◌, List, [], ◌∷◌, length, Option, Some, None, refl, sym, ap, ◌∙◌, arith, le-ltb}
use Rattle.std.specs.Prelude.{IfSome, map}
use Rattle.std.specs.List.{AllByRecursion}
use Rattle.std.specs.Option.{option_map}
use Rattle.std.proofs.lemmas.List.{map-id}
use Rattle.der_values.specs.Value.{value}
use Rattle.der_values.specs.Typed.{IsTagged}
use Rattle.der_values.specs.Shape.{tagged, Check, unchecked, checked, Shape, nothing_more, unread, repeated, Parts, spell}
use Rattle.der_values.specs.Algorithm.{Name, name_of, algorithm_shape, IsName}
use Rattle.der_values.proofs.Written.{name_parts, name_named as named_so}
use Rattle.der_values.proofs.Anywhere.{Anywhere, AnyValue, PassesHeader, AllValues, nothing_valid, value_anywhere, leaf_anywhere, name_anywhere, repeated_valid}
use Rattle.evidence_syntax.specs.Checks.{RecordCheck, not_empty, hash_length, filled_of, hash_length_of, record_checks}
use Rattle.evidence_syntax.specs.Lists.{list_shape, ListParts, lists_shape, lists_of}
use Rattle.evidence_syntax.specs.Valid.{IsHash, IsList, IsTree}

-- Parts of a value, of which v is named, lead from a state to a state.
pub record Named (tag : ℕ) (c : Check RecordCheck) (inner : Shape RecordCheck) {V : Type 0} (of : Parts inner → V) (σ : ℕ) (v : V) (τ : ℕ) : Type 0 where
  pub parts : Parts inner
  pub named : of parts ≡ v
  pub valid : AnyValue record_checks tag c inner σ parts τ

-- the same of one that may be absent
pub record NamedOption (tag : ℕ) (c : Check RecordCheck) (inner : Shape RecordCheck) {V : Type 0} (of : Parts inner → V) (σ : ℕ) (o : Option V) : Type 0 where
  pub parts : Option (Parts inner)
  pub named : option_map of parts ≡ o
  pub valid : IfSome parts (λ p. AnyValue record_checks tag c inner σ p σ)

pub option_named : (tag : ℕ) (c : Check RecordCheck) (inner : Shape RecordCheck) {V : Type 0} (of : Parts inner → V) (Is : V → Type 0) (σ : ℕ) (o : Option V)
    → ((v : V) → Is v → Named tag c inner of σ v σ) → IfSome o Is → NamedOption tag c inner of σ o
option_named tag c inner of Is σ None each is = record { parts = None; named = refl; valid = tt }
option_named tag c inner of Is σ (Some v) each is =
    let one = each v is in
    record { parts = Some one.parts; named = ap Some one.named; valid = one.valid }

-- ---- values of one tag

module _ (tag : ℕ) (c : Check RecordCheck) (inner : Shape RecordCheck) {V : Type 0} (of : Parts inner → V) where
  abbrev pub AllNamed : ℕ → List V → ℕ → Type 0
  AllNamed σ [] τ = σ ≡ τ
  AllNamed σ (v ∷ vs) τ = (σ1 : ℕ) × Named tag c inner of σ v σ1 × AllNamed σ1 vs τ

  pub record NamedList (σ : ℕ) (vs : List V) (τ : ℕ) : Type 0 where
    pub parts : List (Parts inner)
    pub named : map of parts ≡ vs
    pub valid : AllValues record_checks tag c inner σ parts τ

  pub list_named : (vs : List V) (σ τ : ℕ) → AllNamed σ vs τ → NamedList σ vs τ
  list_named [] σ τ all = record { parts = []; named = refl; valid = all }
  list_named (v ∷ vs) σ τ all =
      let one = all.1 in
      let more = list_named vs all.0 τ all.2 in
      record { parts = one.parts ∷ more.parts; named = λ i. one.named i ∷ more.named i; valid = (all.0, one.valid, more.valid) }

  -- of which each keeps the state
  pub each_named : (Is : V → Type 0) (σ : ℕ) (vs : List V) → ((v : V) → Is v → Named tag c inner of σ v σ) → AllByRecursion Is vs → AllNamed σ vs σ
  each_named Is σ [] each is = refl
  each_named Is σ (v ∷ vs) each is = (σ, each v is.0, each_named Is σ vs each is.1)

  abbrev values : Shape RecordCheck
  values = repeated (tagged tag) c inner nothing_more

  pub values_valid : (σ τ : ℕ) (ps : List (Parts inner)) → AllValues record_checks tag c inner σ ps τ → Anywhere record_checks values σ (ps, tt) τ
  unfolding spell
  values_valid σ τ ps all = repeated_valid record_checks tag c inner nothing_more σ τ τ ps tt all refl (nothing_valid record_checks τ)

  -- that there are some is checked
  filled : (σ : ℕ) (vs : List V) (ps : List (Parts inner)) → vs ≢ [] → map of ps ≡ vs → (outer : ℕ) → PassesHeader record_checks outer (checked not_empty) σ (spell values (ps, tt)) σ
  unfolding spell value filled_of
  filled σ vs [] some named outer place = absurd (some (sym named))
  filled σ vs (p ∷ ps) some named outer place = refl

  pub filled_named : (outer : ℕ) (σ : ℕ) (vs : List V) (τ : ℕ) → outer % 32 ≢ 31 → vs ≢ [] → AllNamed σ vs τ → Named outer (checked not_empty) values (λ p. map of p.0) σ vs τ
  filled_named outer σ vs τ low some all =
      let l = list_named vs σ τ all in
      record {
        parts = (l.parts, tt);
        named = l.named;
        valid = value_anywhere record_checks outer (checked not_empty) values σ σ τ τ (l.parts, tt) low (filled σ vs l.parts some l.named outer) (values_valid σ τ l.parts l.valid) (λ place. refl);
      }

-- ---- the name of an algorithm

pub name_named : (tag : ℕ) → tag % 32 ≢ 31 → (σ : ℕ) (name : Name) → IsName name → Named tag unchecked algorithm_shape name_of σ name σ
name_named tag low σ name is = record {
  parts = name_parts name is;
  named = named_so name is;
  valid = value_anywhere record_checks tag unchecked algorithm_shape σ σ σ σ (name_parts name is) low (λ place. refl) (name_anywhere record_checks σ name is) (λ place. refl);
}

-- ---- a value that is not looked into

pub tagged_named : (tag : ℕ) (σ : ℕ) (bytes : List ℕ) → IsTagged tag bytes → Named tag unchecked unread (λ (content : List ℕ). value tag content) σ bytes σ
tagged_named tag σ bytes is = record {
  parts = is.content;
  named = sym is.spells.is;
  valid = leaf_anywhere record_checks tag unchecked σ σ σ is.content is.spells.low_tag (λ place. refl) (λ place. refl);
}

-- ---- the reduced hash tree

hash_passes : (σ : ℕ) (hash : List ℕ) → IsHash hash → PassesHeader record_checks 4 (checked hash_length) σ hash σ
unfolding hash_length_of
hash_passes σ [] is place = absurd (omega (arith, is.0))
hash_passes σ (b ∷ bs) is place = rw (le-ltb 64 (length (b ∷ bs)) is.1) refl

hash_named : (σ : ℕ) (hash : List ℕ) → IsHash hash → Named 4 (checked hash_length) unread (λ (v : List ℕ). v) σ hash σ
hash_named σ hash is = record {
  parts = hash;
  named = refl;
  valid = leaf_anywhere record_checks 4 (checked hash_length) σ σ σ hash (λ e. omega arith) (hash_passes σ hash is) (λ place. refl);
}

list_of_hashes : (σ : ℕ) (hashes : List (List ℕ)) → IsList hashes → Named 48 (checked not_empty) list_shape (λ (p : ListParts). p.0) σ hashes σ
list_of_hashes σ hashes is =
    let n = filled_named 4 (checked hash_length) unread (λ (v : List ℕ). v) 48 σ hashes σ (λ e. omega arith) is.some
    (each_named 4 (checked hash_length) unread (λ (v : List ℕ). v) IsHash σ hashes (hash_named σ) is.each) in
    record { parts = n.parts; named = sym (map-id n.parts.0) ∙ n.named; valid = n.valid }

pub tree_named : (σ : ℕ) (lists : List (List (List ℕ))) → IsTree lists → Named 162 (checked not_empty) lists_shape lists_of σ lists σ
tree_named σ lists is =
    filled_named 48 (checked not_empty) list_shape (λ (p : ListParts). p.0) 162 σ lists σ (λ e. omega arith) is.some
    (each_named 48 (checked not_empty) list_shape (λ (p : ListParts). p.0) IsList σ lists (list_of_hashes σ) is.each)

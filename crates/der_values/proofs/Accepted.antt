-- What passes the check of its type can be written as a value of that type.
use Rattle.std.proofs.Common.{◌≡◌, ℕ, ◌==◌, Bool, true, false, List, [], ◌∷◌, ◌++◌, Option, Some, None, Result, Ok, Err, refl, sym, ap, subst, ◌∙◌, arith, if◌then◌else◌}
use Rattle.std.specs.Prelude.{IfSome}
use Rattle.std.specs.Option.{option_map}
use Rattle.std.proofs.lemmas.Bool.Decides.{nat_tests}
use Rattle.std.proofs.lemmas.List.{append-nil}
use Rattle.der_values.specs.declared.fault.DerFault.{DerFault}
use Rattle.der_values.specs.declared.fault.DerKind.TheVariants.{NotMinimal, BadValue}
use Rattle.der_values.specs.Value.{value}
use Rattle.der_values.specs.Steps.{◌>>=◌, lift}
use Rattle.der_values.specs.Typed.{has_excess, are_subidentifiers, integer_of, oid_of, is_one, version_of, IsInteger, IsOid, IsOneValue}
use Rattle.der_values.specs.Next.{contents}
use Rattle.der_values.specs.Shape.{any_tag, tagged, unchecked, is_integer, is_oid, Shape, nothing_more, unread, required, Checks, Parts, spell}
use Rattle.der_values.specs.Reading.{at_header, passes}
use Rattle.der_values.specs.Grammar.{item_of, ValidValue, ValidOptional, Valid}
use Rattle.der_values.specs.Algorithm.{name_of, AlgorithmParts, algorithm_shape, algorithm_of, IsName, name_contents}
use Rattle.der_values.proofs.Values.{ok_is}
use Rattle.der_values.proofs.Again.{again}
use Rattle.der_values.proofs.Passed.{under, algorithm_alike}
use Rattle.der_values.proofs.Written.{item}

pub version_is : {F : Type 0} (der : DerFault → F) (other : F) (place : ℕ) (content : List ℕ) (τ : Unit {0}) → version_of der other (item place 2 content) ≡ Ok τ → content ≡ 1 ∷ []
unfolding version_of integer_of
version_is der other place [] τ e = absurd cc
version_is {F} der other place (b ∷ []) τ e = by_one (b == 1) refl e where
  by_one : (x : Bool) → (b == 1) ≡ x → (if x then Ok tt else Err other) ≡ Ok τ → b ∷ [] ≡ 1 ∷ []
  by_one true is e = let same : b ≡ 1 = grind (arith, nat_tests) in ap (λ n. n ∷ []) same
  by_one false is e = absurd cc
version_is {F} der other place (a ∷ b ∷ bs) τ e = by_excess (has_excess (a ∷ b ∷ bs)) e where
  by_excess : (x : Bool) → (lift der (if x then Err (record { place = place; kind = NotMinimal }) else Ok (a ∷ b ∷ bs)) >>= λ (c : List ℕ). if is_one c then Ok tt else Err other) ≡ Ok τ → a ∷ b ∷ bs ≡ 1 ∷ []
  by_excess true e = absurd cc
  by_excess false e = absurd cc

-- what the parts of an AlgorithmIdentifier spell
pub name_again : (C : Type 0) (p : AlgorithmParts) → spell {C = C} algorithm_shape p ≡ name_contents (name_of p)
unfolding spell
name_again C (oid, (None, u)) = refl
name_again C (oid, (Some v, u)) = ap (λ params. value 6 oid ++ params) (append-nil (value v.0 v.1))

module _ {C S F : Type 0} (k : Checks C S F) where
  pub integer_is : (σ : S) (place : ℕ) (content : List ℕ) (τ : S) → at_header k is_integer σ (item place 2 content) ≡ Ok τ → IsInteger content
  unfolding integer_of
  integer_is σ place [] τ e = absurd cc
  integer_is σ place (b ∷ bs) τ e = by_excess (has_excess (b ∷ bs)) refl e where
    by_excess : (x : Bool) → has_excess (b ∷ bs) ≡ x → passes k.der σ (if x then Err (record { place = place; kind = NotMinimal }) else Ok (b ∷ bs)) ≡ Ok τ → IsInteger (b ∷ bs)
    by_excess true is e = absurd cc
    by_excess false is e = record { some = λ f. cc; fewest = is }

  pub oid_is : (σ : S) (place : ℕ) (content : List ℕ) (τ : S) → at_header k is_oid σ (item place 6 content) ≡ Ok τ → IsOid content
  unfolding oid_of
  oid_is σ place [] τ e = absurd cc
  oid_is σ place (b ∷ bs) τ e = by_whole (are_subidentifiers true (b ∷ bs)) refl e where
    by_whole : (x : Bool) → are_subidentifiers true (b ∷ bs) ≡ x → passes k.der σ (if x then Ok (b ∷ bs) else Err (record { place = place; kind = BadValue })) ≡ Ok τ → IsOid (b ∷ bs)
    by_whole true is e = record { some = λ f. cc; whole = is }
    by_whole false is e = absurd cc

  params_is : (taken : Bool) (σ : S) (place : ℕ) (o : Option (ℕ × List ℕ)) (τ : S) → ValidOptional (ValidValue k any_tag unchecked (Valid k unread) (spell {C = C} unread)) taken σ place o τ
      → IfSome (option_map (λ (v : ℕ × List ℕ). value v.0 v.1) o) IsOneValue
  unfolding spell
  params_is taken σ place None τ v = tt
  params_is taken σ place (Some p) τ v = record { tag = p.0; content = p.1; spells = record { low_tag = v.low_tag; short = v.short; is = refl } }

  -- the name of an algorithm
  pub name_is : (σ : S) (place : ℕ) (p : AlgorithmParts) (τ : S) → Valid k algorithm_shape σ place p τ → IsName (name_of p)
  unfolding Valid spell
  name_is σ place p τ v = record { oid = oid_is σ place p.0 v.1.before v.1.header_passes; params = params_is _ _ _ p.1.0 _ v.2.1 }

  -- it is read so, whatever the checks, and changes no state
  under_ok : (σ τ : S) (r : Result (AlgorithmParts × Unit {0}) DerFault) (p : AlgorithmParts) → under k.der σ r ≡ Ok (p, τ) → (r ≡ Ok (p, tt)) × (σ ≡ τ)
  under_ok σ τ (Ok x) p e =
      let same = ok_is {F = F} (x.0, σ) (p, τ) e in
      (ap (λ (y : AlgorithmParts × S). Ok (y.0, tt)) same, ap (λ (y : AlgorithmParts × S). y.1) same)
  under_ok σ τ (Err d) p e = absurd cc

  pub algorithm_read : (σ : S) (place : ℕ) (p : AlgorithmParts) (τ : S) → Valid k algorithm_shape σ place p τ → (algorithm_of (record { place = place; left = spell {C = C} algorithm_shape p }) ≡ Ok (p, tt)) × (σ ≡ τ)
  algorithm_read σ place p τ v = under_ok σ τ _ p (sym (algorithm_alike k σ (record { place = place; left = spell {C = C} algorithm_shape p })) ∙ again k algorithm_shape σ place p τ v)

  -- a value without a check of its own is what stands in it
  pub unchecked_inside : (tag : ℕ) (inner : Shape C) (σ : S) (place : ℕ) (q : Parts inner) (τ : S) → ValidValue k (tagged tag) unchecked (Valid k inner) (spell inner) σ place q τ → (within : ℕ) × Valid k inner σ within q τ
  unchecked_inside tag inner σ place q τ v =
      let within = (contents (item_of (tagged tag) (spell inner) place q)).place in
      (within, subst (λ (s : S). Valid k inner s within q τ) (sym (ok_is {F = F} σ v.before v.header_passes)) (subst (λ (s : S). Valid k inner v.before within q s) (ok_is {F = F} v.after τ v.end_passes) v.inside))

  pub last_inside : (tag : ℕ) (inner : Shape C) (σ : S) (place : ℕ) (p : Parts (required (tagged tag) unchecked inner nothing_more)) (τ : S) → Valid k (required (tagged tag) unchecked inner nothing_more) σ place p τ
      → (within : ℕ) × Valid k inner σ within p.0 τ
  unfolding Valid
  last_inside tag inner σ place p τ v = unchecked_inside tag inner σ place p.0 τ (subst (λ (s : S). ValidValue k (tagged tag) unchecked (Valid k inner) (spell inner) σ place p.0 s) v.2 v.1)

  pub first_inside : (tag : ℕ) (inner : Shape C) (σ : S) (place : ℕ) (p : Parts (required (tagged tag) unchecked inner unread)) (τ : S) → Valid k (required (tagged tag) unchecked inner unread) σ place p τ
      → (within : ℕ) × Valid k inner σ within p.0 τ
  unfolding Valid
  first_inside tag inner σ place p τ v = unchecked_inside tag inner σ place p.0 τ (subst (λ (s : S). ValidValue k (tagged tag) unchecked (Valid k inner) (spell inner) σ place p.0 s) v.2 v.1)

-- Which cohorts have a group.
use Rattle.std.proofs.Common.{◌≡◌, ℕ, Bool, true, false, List, [], ◌∷◌, refl, sym, ap, ◌∙◌}
use Rattle.std.specs.Prelude.{◌==◌, ◌||◌, nat_lt, not, find, Option, Some, None, is_some, MatchOption, if◌then◌else◌}
use Rattle.std.specs.Option.{option_map}
use Rattle.std.specs.List.{list_any}
use Rattle.std.proofs.lemmas.Bool.{eqb-true}
use Rattle.archive_chain.specs.Kept.{Cover, Kept, cohort_of, has_name, with_name, cohorts_in, last_of, cohort_last}
use Rattle.archive_chain.specs.Rules.{is_live, live_rule}
use Rattle.archive_chain.specs.declared.refusal.Refusal.TheVariants.{NotLive}
use Rattle.archive_chain.specs.Held.{Held}
use Rattle.archive_chain.specs.InsidePieces.{IsRowOf}
use Rattle.archive_chain.proofs.RowsRenewing.{by_test}

swap_or : (a b c : Bool) → (a || (b || c)) ≡ (b || (a || c))
swap_or true true c = refl
swap_or true false c = refl
swap_or false b c = refl

twice_or : (a c : Bool) → (a || c) ≡ (a || (a || c))
twice_or true c = refl
twice_or false c = refl

-- the names of a list with one name more
has_with : (name c : ℕ) (names : List ℕ) → has_name (with_name name names) c ≡ ((name == c) || has_name names c)
has_with name c [] = refl
has_with name c (other ∷ names) =
    by_test (nat_lt name other)
    (λ p. ap (λ (b : Bool). has_name (if b then name ∷ other ∷ names else if name == other then other ∷ names else other ∷ with_name name names) c) p)
    (λ p.
    ap (λ (b : Bool). has_name (if b then name ∷ other ∷ names else if name == other then other ∷ names else other ∷ with_name name names) c) p
    ∙ by_test (name == other)
    (λ q.
    ap (λ (b : Bool). has_name (if b then other ∷ names else other ∷ with_name name names) c) q
    ∙ twice_or (other == c) (has_name names c)
    ∙ ap (λ (n : ℕ). (n == c) || ((other == c) || has_name names c)) (sym (eqb-true name other q)))
    (λ q.
    ap (λ (b : Bool). has_name (if b then other ∷ names else other ∷ with_name name names) c) q
    ∙ ap (λ (b : Bool). (other == c) || b) (has_with name c names)
    ∙ swap_or (other == c) (name == c) (has_name names c)))

-- a name of the cohorts is that of a group's
pub named_live : (c : ℕ) (groups : List (List Cover)) → has_name (cohorts_in groups) c ≡ list_any (λ covers. cohort_of covers == c) groups
named_live c [] = refl
named_live c (g ∷ groups) = has_with (cohort_of g) c (cohorts_in groups) ∙ ap (λ (b : Bool). (cohort_of g == c) || b) (named_live c groups)

pub live_rule_is : (k : Kept) (cohorts : List ℕ) → option_map NotLive (find (λ c. not (has_name (cohorts_in k.sealed) c)) cohorts) ≡ live_rule k cohorts
live_rule_is k cohorts = λ i. option_map NotLive (find (λ c. not (named_live c k.sealed i)) cohorts)

-- a row tells whether its cohort has a group
pub row_live : (h : Held) (cohort : ℕ) (o : Option ℕ) → MatchOption o (has_name (cohorts_in h.kept.sealed) cohort ≡ false) (IsRowOf h cohort) → is_some o ≡ is_live h.kept cohort
row_live h cohort None e = sym e ∙ named_live cohort h.kept.sealed
row_live h cohort (Some place) e = sym e.named ∙ named_live cohort h.kept.sealed

pub or_none : (a b : Bool) → (a || b) ≡ false → (a ≡ false) × (b ≡ false)
or_none true b e = absurd cc
or_none false b e = (refl, e)

-- a cohort without a group has no last time-stamp
pub no_last : (c : ℕ) (groups : List (List Cover)) → has_name (cohorts_in groups) c ≡ false → cohort_last groups c ≡ None
no_last c groups e = none groups (sym (named_live c groups) ∙ e) where
  none : (groups : List (List Cover)) → list_any (λ covers. cohort_of covers == c) groups ≡ false → cohort_last groups c ≡ None
  none [] e = refl
  none (g ∷ groups) e =
      let parts = or_none (cohort_of g == c) (list_any (λ covers. cohort_of covers == c) groups) e in
      ap (λ (b : Bool). if b then last_of g else cohort_last groups c) parts.0 ∙ none groups parts.1

-- The last tokens of the groups that a renewal covers.
use Rattle.std.proofs.Common.{◌≡◌, ℕ, suc, Bool, true, List, [], ◌∷◌, map, refl, sym, ap, subst, ◌∙◌, arith}
use Rattle.std.specs.Prelude.{◌==◌, ◌||◌, Contains, if◌then◌else◌}
use Rattle.std.specs.List.{AllByRecursion, list_any, filter}
use Rattle.std.proofs.lemmas.Bool.{eqb-true}
use Rattle.archive_chain.specs.Kept.{Cover, cohort_of, has_name, is_in, last_of, token_of, last_token, cohort_last}
use Rattle.archive_chain.specs.Rules.{tokens_in}
use Rattle.archive_chain.proofs.RowsRenewing.{by_test}

module _ (cohorts : List ℕ) where
  abbrev chosen : Bool → List Cover → List (List Cover) → List (List ℕ)
  chosen b g groups = map last_token (if b then g ∷ filter (is_in cohorts) groups else filter (is_in cohorts) groups)

  -- what is so of the last token of each such group is so of each of these tokens
  pub each_token : (P : List ℕ → Type 0) (groups : List (List Cover)) → AllByRecursion (λ (g : List Cover). is_in cohorts g ≡ true → P (last_token g)) groups → AllByRecursion P (tokens_in cohorts groups)
  each_token P [] h = tt
  each_token P (g ∷ groups) h =
      let rest = each_token P groups h.1 in
      by_test (is_in cohorts g)
      (λ t. subst (λ (b : Bool). AllByRecursion P (chosen b g groups)) (sym t) (h.0 t, rest))
      (λ f. subst (λ (b : Bool). AllByRecursion P (chosen b g groups)) (sym f) rest)

  behind : (token x : List ℕ) (xs : List (List ℕ)) → Contains xs token → Contains (x ∷ xs) token
  behind token x xs h = let less = h.1 in (suc h.0, omega (arith, less), h.2)

  -- the last token of such a cohort is one of them
  pub has_token : (c : ℕ) (groups : List (List Cover)) → has_name cohorts c ≡ true → list_any (λ covers. cohort_of covers == c) groups ≡ true → Contains (tokens_in cohorts groups) (token_of (cohort_last groups c))
  has_token c [] named live = absurd cc
  has_token c (g ∷ groups) named live =
      by_test (cohort_of g == c)
      (λ t.
      let there : is_in cohorts g ≡ true = ap (has_name cohorts) (eqb-true (cohort_of g) c t) ∙ named in
      let here : cohort_last (g ∷ groups) c ≡ last_of g = ap (λ (b : Bool). if b then last_of g else cohort_last groups c) t in
      let first : Contains (chosen true g groups) (token_of (last_of g)) = (0, omega arith, refl) in
      subst (λ (b : Bool). Contains (chosen b g groups) (token_of (cohort_last (g ∷ groups) c))) (sym there)
      (subst (λ (l : List ℕ). Contains (chosen true g groups) l) (ap token_of (sym here)) first))
      (λ f.
      let rest = has_token c groups named (sym (ap (λ (b : Bool). b || list_any (λ covers. cohort_of covers == c) groups) f) ∙ live) in
      let here : cohort_last (g ∷ groups) c ≡ cohort_last groups c = ap (λ (b : Bool). if b then last_of g else cohort_last groups c) f in
      let there : Contains (tokens_in cohorts groups) (token_of (cohort_last (g ∷ groups) c)) = subst (λ (l : List ℕ). Contains (tokens_in cohorts groups) l) (ap token_of (sym here)) rest in
      by_test (is_in cohorts g)
      (λ t. subst (λ (b : Bool). Contains (chosen b g groups) (token_of (cohort_last (g ∷ groups) c))) (sym t) (behind (token_of (cohort_last (g ∷ groups) c)) (last_token g) (tokens_in cohorts groups) there))
      (λ e. subst (λ (b : Bool). Contains (chosen b g groups) (token_of (cohort_last (g ∷ groups) c))) (sym e) there))

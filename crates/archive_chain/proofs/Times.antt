-- The latest time of the last tokens of some cohorts, and what an early token breaks.
use Rattle.std.proofs.Common.{◌≡◌, ℕ, Bool, true, false, List, [], ◌∷◌, ◌++◌, Option, Some, None, refl, sym, ap, subst, ◌∙◌}
use Rattle.std.specs.Prelude.{◌==◌, ◌||◌, if◌then◌else◌}
use Rattle.std.specs.List.{AllByRecursion}
use Rattle.std.proofs.lemmas.Bool.{eqb-true, eq-eqb}
use Rattle.std.proofs.lemmas.List.Elements.{All-from_recursion, All-contains}
use Rattle.std.proofs.lemmas.List.Folds.{list_any-append}
use Rattle.civil_moment.specs.declared.moment.Moment.{Moment}
use Rattle.civil_moment.specs.Moment.{is_before}
use Rattle.algorithm_policy.specs.Content.{Content}
use Rattle.token_check.specs.Sound.{Stamp as Says, Sound}
use Rattle.token_check.proofs.Once.{says_once}
use Rattle.archive_chain.specs.Kept.{Cover, Kept, cohort_of, has_name, is_in, last_of, last_token, token_of, cohort_last}
use Rattle.archive_chain.specs.Rules.{is_live, tokens_in}
use Rattle.archive_chain.specs.InsideToken.{IsLatestOf, IsLastTime, IsLatestIn, IsLatestSoFar, later_of, SharesLast}
use Rattle.archive_chain.proofs.RowsRenewing.{by_test}
use Rattle.archive_chain.proofs.Growing.{all_weaker}
use Rattle.archive_chain.proofs.Chosen.{live_named}
use Rattle.archive_chain.proofs.Covered.{each_token, has_token}
use Rattle.archive_chain.proofs.Moments.{not_after, not_before}

not_itself : (a : Moment) → is_before a a ≡ false
not_itself a = by_test (is_before a a) (λ t. not_after a a t) (λ f. f)

-- ---- one cohort more

module _ (k : Kept) (policy : Content) where
  one_time : (c : ℕ) (s t : Moment) → IsLastTime k policy c s → IsLastTime k policy c t → s ≡ t
  one_time c s t a b =
      sym a.time_is ∙ ap (λ (x : Says). x.time) (says_once policy (token_of (cohort_last k.sealed c)) a.says b.says a.sound b.sound) ∙ b.time_is

  either : {G : Type 0} (names : List ℕ) (c other : ℕ) → has_name (names ++ c ∷ []) other ≡ true → (has_name names other ≡ true → G) → (c ≡ other → G) → G
  either names c other h f g =
      by_test (has_name names other) f
      (λ e.
      by_test (c == other)
      (λ t. g (eqb-true c other t))
      (λ n. absurd (let no : has_name (names ++ c ∷ []) other ≡ false = list_any-append (λ x. x == other) names (c ∷ []) ∙ (λ i. e i || (n i || false)) in let t = sym h ∙ no in cc)))

  more_named : (names : List ℕ) (c other : ℕ) → has_name names other ≡ true → has_name (names ++ c ∷ []) other ≡ true
  more_named names c other h = list_any-append (λ x. x == other) names (c ∷ []) ∙ ap (λ (b : Bool). b || has_name (c ∷ []) other) h

  last_named : (names : List ℕ) (c : ℕ) → has_name (names ++ c ∷ []) c ≡ true
  last_named names c =
      by_test (has_name names c) (more_named names c c)
      (λ f. list_any-append (λ x. x == c) names (c ∷ []) ∙ (λ i. f i || (eq-eqb c c refl i || false)))

  pub one_later : (names : List ℕ) (c : ℕ) (o : Option Moment) (time : Moment) → IsLatestSoFar k policy names o → IsLastTime k policy c time → IsLatestIn k policy (names ++ c ∷ []) (later_of o time)
  one_later names c None time so_far here = record {
    cohort = c;
    among = last_named names c;
    is = here;
    none_later = λ other other_time h there. either names c other h
        (λ e. absurd (let t = sym e ∙ ap (λ (l : List ℕ). has_name l other) so_far in cc))
        (λ e. ap (is_before time) (sym (one_time other time other_time (subst (λ (x : ℕ). IsLastTime k policy x time) e here) there)) ∙ not_itself time);
  }
  one_later names c (Some latest) time so_far here =
      by_test (is_before latest time)
      (λ t. subst (IsLatestIn k policy (names ++ c ∷ [])) (sym (ap (λ (b : Bool). if b then time else latest) t)) (record {
        cohort = c;
        among = last_named names c;
        is = here;
        none_later = λ other other_time h there. either names c other h
            (λ e. not_before time latest other_time (not_after latest time t) (so_far.none_later other other_time e there))
            (λ e. ap (is_before time) (sym (one_time other time other_time (subst (λ (x : ℕ). IsLastTime k policy x time) e here) there)) ∙ not_itself time);
      }))
      (λ f. subst (IsLatestIn k policy (names ++ c ∷ [])) (sym (ap (λ (b : Bool). if b then time else latest) f)) (record {
        cohort = so_far.cohort;
        among = more_named names c so_far.cohort so_far.among;
        is = so_far.is;
        none_later = λ other other_time h there. either names c other h
            (λ e. so_far.none_later other other_time e there)
            (λ e. ap (is_before latest) (sym (one_time other time other_time (subst (λ (x : ℕ). IsLastTime k policy x time) e here) there)) ∙ f);
      }))

  -- ---- of the covered groups

  none_covered : (groups : List (List Cover)) → tokens_in [] groups ≡ []
  none_covered [] = refl
  none_covered (g ∷ groups) = none_covered groups

  OfCohort : List ℕ → List ℕ → Type 0
  OfCohort cohorts token = (c : ℕ) × (has_name cohorts c ≡ true) × (token ≡ token_of (cohort_last k.sealed c))

  of_cohorts : (cohorts : List ℕ) (groups : List (List Cover)) → AllByRecursion (λ (g : List Cover). last_of g ≡ cohort_last k.sealed (cohort_of g)) groups → AllByRecursion (OfCohort cohorts) (tokens_in cohorts groups)
  unfolding OfCohort
  of_cohorts cohorts groups shared =
      each_token cohorts (OfCohort cohorts) groups
      (all_weaker (λ (g : List Cover). last_of g ≡ cohort_last k.sealed (cohort_of g)) (λ (g : List Cover). is_in cohorts g ≡ true → OfCohort cohorts (last_token g)) groups
      (λ g same named. (cohort_of g, named, ap token_of same)) shared)

  pub latest_is : (cohorts : List ℕ) (o : Option Moment) → SharesLast k → AllByRecursion (λ c. is_live k c ≡ true) cohorts → IsLatestSoFar k policy cohorts o → IsLatestOf policy (tokens_in cohorts k.sealed) o
  unfolding OfCohort
  latest_is cohorts None shared live none = ap (λ (l : List ℕ). tokens_in l k.sealed) none ∙ none_covered k.sealed
  latest_is cohorts (Some time) shared live l = record {
    token = token_of (cohort_last k.sealed l.cohort);
    says = l.is.says;
    among = has_token cohorts l.cohort k.sealed l.among (live_named k cohorts l.cohort live l.among);
    sound = l.is.sound;
    time_is = l.is.time_is;
    none_later = λ other other_says within sound.
        (let all = All-from_recursion (OfCohort cohorts) (tokens_in cohorts k.sealed) (of_cohorts cohorts k.sealed shared.each) in
        let of_one = All-contains (OfCohort cohorts) (tokens_in cohorts k.sealed) other all within in
        l.none_later of_one.0 other_says.time of_one.1 (record { says = other_says; sound = subst (λ (t : List ℕ). Sound policy t other_says) of_one.2 sound; time_is = refl }));
  }

-- What private functions say of a token and of a policy.
use Rattle.std.specs.Prelude.{◌≡◌, ◌⊎◌, ℕ, true, false, List, [], Contains, Option, Some, None, if◌then◌else◌}
use Rattle.civil_moment.specs.declared.moment.Moment.{Moment}
use Rattle.civil_moment.specs.Moment.{is_before}
use Rattle.hash_kit.specs.declared.algorithm.HashAlg.{HashAlg}
use Rattle.algorithm_policy.specs.Content.{Content, first_dropped}
use Rattle.algorithm_policy.specs.Text.{PolicyText}
use Rattle.std.specs.List.{AllByRecursion}
use Rattle.token_check.specs.Sound.{Stamp as Says, Sound}
use Rattle.token_check.specs.Fault.{Fails}
use Rattle.archive_chain.specs.declared.refusal.Refusal.{Refusal}
use Rattle.archive_chain.specs.declared.refusal.Refusal.TheVariants.{Memory, Token, TokenEarly}
use Rattle.archive_chain.specs.Kept.{Cover, Kept, cohort_of, has_name, last_of, token_of, cohort_last}
use Rattle.archive_chain.specs.Rules.{IsLatest, Stamps}

-- The refusal is so, or it is want of memory.
abbrev pub Refuses : (Refusal → Type 0) → Refusal → Type 0
Refuses P refusal = (refusal ≡ Memory) ⊎ P refusal

-- ---- a token

-- The refusal is that of the first check that fails.
abbrev pub IsCheckRefusal : Content → List ℕ → Refusal → Type 0
IsCheckRefusal policy token (Token check) = Fails policy token check
IsCheckRefusal policy token refusal = ⊥

-- The token keeps its rules, and this is what it says.
pub record TokenKeepsAs (policy : Content) (alg : HashAlg) (root : List ℕ) (covered : List (List ℕ)) (token : List ℕ) (says : Says) : Type 0 where
  pub sound : Sound policy token says
  pub imprint : Stamps says alg root
  pub not_early : (other : List ℕ) (other_says : Says) → Contains covered other → Sound policy other other_says → is_before says.time other_says.time ≡ false

-- the latest time of these tokens, where there is one
abbrev pub IsLatestOf : Content → List (List ℕ) → Option Moment → Type 0
IsLatestOf policy tokens None = tokens ≡ []
IsLatestOf policy tokens (Some time) = IsLatest policy tokens time

-- the refusal of a token with a time before the latest
abbrev pub early_by : Moment → Option Moment → Option Refusal
early_by time None = None
early_by time (Some latest) = if is_before time latest then Some (TokenEarly time latest) else None

-- ---- times of cohorts

-- The last token of this cohort says this time.
pub record IsLastTime (k : Kept) (policy : Content) (cohort : ℕ) (time : Moment) : Type 0 where
  pub says : Says
  pub sound : Sound policy (token_of (cohort_last k.sealed cohort)) says
  pub time_is : says.time ≡ time

-- each group's last time-stamp is that of its cohort
pub record SharesLast (k : Kept) : Type 0 where
  pub each : AllByRecursion (λ (g : List Cover). last_of g ≡ cohort_last k.sealed (cohort_of g)) k.sealed

-- It is the latest of the last times of these cohorts.
pub record IsLatestIn (k : Kept) (policy : Content) (cohorts : List ℕ) (time : Moment) : Type 0 where
  pub cohort : ℕ
  pub among : has_name cohorts cohort ≡ true
  pub is : IsLastTime k policy cohort time
  pub none_later : (other : ℕ) (other_time : Moment) → has_name cohorts other ≡ true → IsLastTime k policy other other_time → is_before time other_time ≡ false

-- the same of those that were looked at, where there was one
abbrev pub IsLatestSoFar : Kept → Content → List ℕ → Option Moment → Type 0
IsLatestSoFar k policy cohorts None = cohorts ≡ []
IsLatestSoFar k policy cohorts (Some time) = IsLatestIn k policy cohorts time

-- the later of two times
abbrev pub later_of : Option Moment → Moment → Moment
later_of None time = time
later_of (Some latest) time = if is_before latest time then time else latest

-- ---- a policy

-- The text says a policy that keeps the one in force.
pub record IsKeptBy (old : Content) (text : List ℕ) (new : Content) : Type 0 where
  pub says : PolicyText text new
  pub kept : first_dropped old new ≡ None

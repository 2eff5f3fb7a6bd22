-- The time-stamps of a record in order, each in its place, and what their tokens say (RFC 4998, 5.1 and 5.3).
use Rattle.std.specs.Prelude.{◌≡◌, ℕ, ◌+◌, List, [], ◌∷◌, ◌++◌, length, map}
use Rattle.std.specs.List.{AllByRecursion}
use Rattle.evidence_syntax.specs.Stamps.{Stamp}
use Rattle.token_check.specs.declared.fault.Check.{Check}
use Rattle.token_check.specs.Sound.{Stamp as Says, Sound}
use Rattle.token_check.specs.Fault.{Fails}
use Rattle.algorithm_policy.specs.Content.{Content}

-- An archive time-stamp in its place: the chains before its own, the number of its chain, and its own in the chain.
pub record Place : Type 0 where
  pub older : List (List Stamp)
  pub chain : ℕ
  pub stamp : ℕ
  pub ats : Stamp

-- the places of a chain's time-stamps, from this number on
abbrev pub places_in : List (List Stamp) → ℕ → List Stamp → List Place
places_in older number [] = []
places_in older number (ats ∷ rest) =
    record { older = older; chain = length older; stamp = number; ats = ats } ∷ places_in older (number + 1) rest

-- the places of the time-stamps of these chains, which come after the older ones
abbrev pub places_after : List (List Stamp) → List (List Stamp) → List Place
places_after older [] = []
places_after older (chain ∷ rest) = places_in older 0 chain ++ places_after (older ++ chain ∷ []) rest

-- the places of all time-stamps of a record, in order
abbrev pub places_of : List (List Stamp) → List Place
places_of chains = places_after [] chains

-- A time-stamp in its place, and what its token says.
pub record Checked : Type 0 where
  pub place : Place
  pub says : Says

-- its token is sound, and says so
abbrev pub IsSound : Content → Checked → Type 0
IsSound policy c = Sound policy c.place.ats.token c.says

-- All tokens in these places are sound, and this is what they say, in order.
pub record AreSound (policy : Content) (places : List Place) (stamps : List Checked) : Type 0 where
  pub in_place : map (λ (c : Checked). c.place) stamps ≡ places
  pub sound : AllByRecursion (IsSound policy) stamps

-- The token in this place is the first that is not sound: it fails this check, and those before it are sound.
pub record IsFirstBad (policy : Content) (places : List Place) (bad : Place) (check : Check) : Type 0 where
  pub before : List Checked
  pub after : List Place
  pub in_place : map (λ (c : Checked). c.place) before ++ bad ∷ after ≡ places
  pub sound : AllByRecursion (IsSound policy) before
  pub fails : Fails policy bad.ats.token check

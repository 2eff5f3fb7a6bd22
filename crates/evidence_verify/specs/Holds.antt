-- When a record holds for documents, under a policy and at a moment (RFC 4998, 4.3 and 5.3).
use Rattle.std.specs.Prelude.{◌≡◌, ◌≢◌, ℕ, ⊤, List, [], ◌∷◌, Contains, Option, Some, None, IfSome, false}
use Rattle.std.specs.List.{AllByRecursion}
use Rattle.civil_moment.specs.declared.moment.Moment.{Moment}
use Rattle.der_values.specs.Algorithm.{Name}
use Rattle.algorithm_policy.specs.Content.{Content}
use Rattle.reduced_tree.specs.Reduced.{first_of}
use Rattle.cms_signed.specs.Names.{known_hash}
use Rattle.evidence_syntax.specs.Stamps.{Stamp}
use Rattle.evidence_verify.specs.Stamps.{places_of, Checked, AreSound}
use Rattle.civil_moment.specs.Moment.{is_before}
use Rattle.evidence_verify.specs.Values.{Owed, owed_by}
use Rattle.evidence_verify.specs.Covers.{Covers}
use Rattle.evidence_verify.specs.Marks.{AreInTime}
use Rattle.evidence_verify.specs.Lapse.{marks_of}

-- It is so of each time-stamp and the one after it.
abbrev pub EachNext : (Checked → Checked → Type 0) → List Checked → Type 0
EachNext R [] = ⊤
EachNext R (a ∷ []) = ⊤
EachNext R (a ∷ b ∷ rest) = R a b × EachNext R (b ∷ rest)

-- An archive time-stamp that names a hash names that of its imprint.
abbrev pub NamesHash : Checked → Type 0
NamesHash c = IfSome c.place.ats.algorithm (λ (name : Name). known_hash name ≡ Some c.says.alg)

-- In a chain the hash stays.
abbrev pub KeepsHash : Checked → Checked → Type 0
KeepsHash a b = b.place.stamp ≢ 0 → b.says.alg ≡ a.says.alg

-- The time does not fall.
abbrev pub KeepsOrder : Checked → Checked → Type 0
KeepsOrder a b = is_before b.says.time a.says.time ≡ false

-- Each value that the time-stamp has to cover is covered.
abbrev pub IsCovered : Owed → Type 0
IsCovered owed = AllByRecursion (Covers owed.stamp) owed.values

-- The moment is not before the last time.
abbrev pub IsLateEnough : Moment → List Checked → Type 0
IsLateEnough moment [] = ⊤
IsLateEnough moment (c ∷ []) = is_before moment c.says.time ≡ false
IsLateEnough moment (c ∷ d ∷ rest) = IsLateEnough moment (d ∷ rest)

-- Every token is sound; each chain has one hash; times do not fall; the first time-stamp of each chain covers each
-- document, and a later one the time-stamp before it; the moment is not before the last time; each successor came in time, and the
-- moment for the last.
pub record Holds (policy : Content) (documents : List (List ℕ)) (moment : Moment) (chains : List (List Stamp)) : Type 0 where
  pub stamps : List Checked
  pub sound : AreSound policy (places_of chains) stamps
  pub named : AllByRecursion NamesHash stamps
  pub one_hash : EachNext KeepsHash stamps
  pub in_order : EachNext KeepsOrder stamps
  pub covered : AllByRecursion IsCovered (owed_by documents stamps)
  pub late_enough : IsLateEnough moment stamps
  pub in_time : AreInTime policy moment (marks_of stamps)

-- Each value of the first list, where there are lists, is one of these.
abbrev pub HasOnly : List (List ℕ) → Option (List (List (List ℕ))) → Type 0
HasOnly values None = ⊤
HasOnly values (Some lists) = AllByRecursion (λ (value : List ℕ). Contains values value) (first_of lists)

-- The first list of a chain's first time-stamp has only values that it has to cover.
abbrev pub IsWhole : Owed → Type 0
IsWhole owed = owed.stamp.place.stamp ≡ 0 → HasOnly owed.values owed.stamp.place.ats.lists

-- The record holds, and its documents are the whole: the first list of each chain has no value but theirs.
pub record HoldsWhole (policy : Content) (documents : List (List ℕ)) (moment : Moment) (chains : List (List Stamp)) : Type 0 where
  pub holds : Holds policy documents moment chains
  pub whole : AllByRecursion IsWhole (owed_by documents holds.stamps)

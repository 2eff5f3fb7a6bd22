-- What verification asks of a sequence at any moment (RFC 4998, 4.3 and 5.3).
use Rattle.std.specs.Prelude.{ℕ, List}
use Rattle.std.specs.List.{AllByRecursion}
use Rattle.algorithm_policy.specs.Content.{Content}
use Rattle.evidence_syntax.specs.Stamps.{Stamp}
use Rattle.evidence_verify.specs.Stamps.{places_of, Checked, AreSound}
use Rattle.evidence_verify.specs.Values.{owed_by}
use Rattle.evidence_verify.specs.Holds.{EachNext, NamesHash, KeepsHash, KeepsOrder, IsCovered}

-- Every token is sound; each chain has one hash, and it is the one that is named; times do not fall; the first time-stamp
-- of each chain covers each document, and a later one the time-stamp before it.
pub record Stands (policy : Content) (documents : List (List ℕ)) (chains : List (List Stamp)) (stamps : List Checked) : Type 0 where
  pub sound : AreSound policy (places_of chains) stamps
  pub named : AllByRecursion NamesHash stamps
  pub one_hash : EachNext KeepsHash stamps
  pub in_order : EachNext KeepsOrder stamps
  pub covered : AllByRecursion IsCovered (owed_by documents stamps)

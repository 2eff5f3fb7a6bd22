-- What stands under a policy stands under one that keeps it.
use Rattle.std.proofs.Common.{ℕ, List}
use Rattle.algorithm_policy.specs.Content.{Content}
use Rattle.evidence_syntax.specs.Stamps.{Stamp}
use Rattle.evidence_verify.specs.Stamps.{Checked, IsSound}
use Rattle.archive_chain.proofs.Saying.{Trusts, sound_kept}
use Rattle.archive_issue.specs.Stands.{Stands}
use Rattle.archive_issue.proofs.Ends.{each_along}

pub stands_kept : (old new : Content) (documents : List (List ℕ)) (chains : List (List Stamp)) (stamps : List Checked) → Trusts old new → Stands old documents chains stamps → Stands new documents chains stamps
stands_kept old new documents chains stamps trusts stands = record {
  sound = record { in_place = stands.sound.in_place; sound = each_along (IsSound old) (IsSound new) (λ c s. sound_kept old new trusts c.place.ats.token c.says s) stamps stands.sound.sound };
  named = stands.named;
  one_hash = stands.one_hash;
  in_order = stands.in_order;
  covered = stands.covered;
}

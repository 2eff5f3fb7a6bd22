-- When a record of the archive holds.
use Rattle.std.specs.Prelude.{◌≡◌, ◌↔◌, ℕ, List, None}
use Rattle.civil_moment.specs.declared.moment.Moment.{Moment}
use Rattle.algorithm_policy.specs.Content.{Content}
use Rattle.evidence_syntax.specs.Stamps.{Stamp}
use Rattle.evidence_verify.specs.Stamps.{Checked}
use Rattle.evidence_verify.specs.Lapse.{lapse_of}
use Rattle.evidence_verify.specs.Holds.{IsLateEnough, Holds}
use Rattle.archive_issue.specs.Stands.{Stands}

-- It stands, and at each moment that is not before its last time it holds exactly where no time-stamp lapsed.
pub record HoldsUnlessLapsed (policy : Content) (documents : List (List ℕ)) (chains : List (List Stamp)) : Type 0 where
  pub stamps : List Checked
  pub stands : Stands policy documents chains stamps
  pub holds : (moment : Moment) → IsLateEnough moment stamps → Holds policy documents moment chains ↔ (lapse_of policy moment stamps ≡ None)

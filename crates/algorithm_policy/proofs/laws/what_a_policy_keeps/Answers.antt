use Rattle.algorithm_policy.proofs.KeepLemmas.{kept, none_dropped, still_found}
use Rattle.algorithm_policy.proofs.laws.what_a_policy_keeps.Goals as goal

pub returns : goal.returns
returns c = record { kept = kept; only = none_dropped; found = still_found }

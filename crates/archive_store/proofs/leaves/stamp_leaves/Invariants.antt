use Rattle.std.proofs.Common.{◌≡◌, map, take}
use Rattle.hash_kit.specs.Digest.{digest_of}
use Rattle.archive_chain.specs.Kept.{token_of, cohort_last}
use Rattle.archive_store.proofs.leaves.stamp_leaves.Given as goal

abbrev pub invariant-loop-cohort : goal.invariant-loop-cohort
invariant-loop-cohort l = l.leaves.items ≡ map (λ c. digest_of l.alg (token_of (cohort_last l.archive.kept.sealed c))) (take l.cohort-index l.cohorts)

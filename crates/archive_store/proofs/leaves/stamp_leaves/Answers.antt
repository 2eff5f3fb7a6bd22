use Rattle.std.proofs.Common.{ℕ, get_or, ap, ◌∙◌}
use Rattle.std.proofs.lemmas.List.{get_or_default}
use Rattle.hash_kit.specs.Digest.{digest_of}
use Rattle.archive_chain.specs.Kept.{token_of, cohort_last}
use Rattle.archive_store.proofs.ReadBack.{list_more}
use Rattle.archive_store.proofs.leaves.stamp_leaves.Goals as goal

pub loop-cohort-preserved : goal.loop-cohort-preserved
loop-cohort-preserved c =
    let cohorts = c.args.cohorts.now in
    let i : ℕ = c.loop-cohort.cohort-index in
    let cohort : ℕ = get_or cohorts i 0 in
    list_more (λ n. digest_of c.args.alg (token_of (cohort_last c.args.archive.now.kept.sealed n))) _ _ _ cohorts i cohort
    c.loop-cohort-test.true (get_or_default cohorts i 0 cohort c.loop-cohort-test.true) c.loop-cohort.invariant (c.digest.ensures.value ∙ ap (digest_of c.args.alg) c.last_token-token.ensures) c.in_ok-push.ensures.items

use Rattle.std.proofs.Common.{◌∙◌, List, ℕ, map, ap}
use Rattle.std.proofs.lemmas.List.{length-map}
use Rattle.hash_kit.specs.Digest.{digest_of}
use Rattle.archive_chain.specs.Kept.{token_of, cohort_last}
use Rattle.archive_store.proofs.Groups.{or_none, count_then}
use Rattle.archive_store.proofs.leaves.leaves_of.Goals as goal

pub seal_leaves-requires-clause-count : goal.seal_leaves-requires-clause-count
seal_leaves-requires-clause-count g c = count_then c.args.archive.now.kept c.in-Seal.count (rw c.in-Seal.is at c.requires.shape)

pub tree_leaves-requires-clause-cohorts : goal.tree_leaves-requires-clause-cohorts
tree_leaves-requires-clause-cohorts g c = rw (c.as_slice-in-RenewTrees.ensures) (rw c.in-RenewTrees.is at c.requires.spelled).0

pub tree_leaves-requires-clause-live : goal.tree_leaves-requires-clause-live
tree_leaves-requires-clause-live g c = rw (c.as_slice-in-RenewTrees.ensures) (or_none _ _ (rw c.in-RenewTrees.is at c.requires.shape))

pub returns-in-Seal-clause-count : goal.returns-in-Seal-clause-count
returns-in-Seal-clause-count g c = rw (c.in-Seal.is) c.seal_leaves.ensures.count

pub returns-in-Seal-clause-leaves : goal.returns-in-Seal-clause-leaves
returns-in-Seal-clause-leaves g c = rw (c.in-Seal.is) c.seal_leaves.ensures.leaves

pub returns-in_ok-stamp_leaves-in-RenewStamps-clause-count : goal.returns-in_ok-stamp_leaves-in-RenewStamps-clause-count
returns-in_ok-stamp_leaves-in-RenewStamps-clause-count g c =
    let sealed = c.args.archive.now.kept.sealed in
    let alg = c.in-RenewStamps.hash in
    rw (c.in-RenewStamps.is, c.in_ok-stamp_leaves-in-RenewStamps.ensures, c.as_slice.ensures)
    (length-map c.in-RenewStamps.cohorts (λ n. digest_of alg (token_of (cohort_last sealed n))))

pub returns-in_ok-stamp_leaves-in-RenewStamps-clause-leaves : goal.returns-in_ok-stamp_leaves-in-RenewStamps-clause-leaves
returns-in_ok-stamp_leaves-in-RenewStamps-clause-leaves g c =
    let sealed = c.args.archive.now.kept.sealed in
    let alg = c.in-RenewStamps.hash in
    λ known. rw (c.in-RenewStamps.is) (c.in_ok-stamp_leaves-in-RenewStamps.ensures
    ∙ ap (λ (l : List ℕ). map (λ n. digest_of alg (token_of (cohort_last sealed n))) l) c.as_slice.ensures)

pub returns-in-RenewTrees-clause-count : goal.returns-in-RenewTrees-clause-count
returns-in-RenewTrees-clause-count g c = rw (c.in-RenewTrees.is, ← c.as_slice-in-RenewTrees.ensures) c.tree_leaves.ensures.count

pub returns-in-RenewTrees-clause-leaves : goal.returns-in-RenewTrees-clause-leaves
returns-in-RenewTrees-clause-leaves g c = rw (c.in-RenewTrees.is, ← c.as_slice-in-RenewTrees.ensures) c.tree_leaves.ensures.leaves

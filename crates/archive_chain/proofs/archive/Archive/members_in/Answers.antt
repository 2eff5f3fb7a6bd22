use Rattle.std.proofs.Common.{ℕ, List, subst, ◌∙◌}
use Rattle.std.specs.Prelude.{IsPermutation}
use Rattle.std.proofs.lemmas.List.Sorted.{IsNonDecreasingBy-from_sort}
use Rattle.archive_chain.proofs.RowsMembers.{sorted_members}
use Rattle.archive_chain.proofs.Chosen.{rises_apart}
use Rattle.archive_chain.proofs.archive.Archive.members_in.Goals as goal

pub returns : goal.returns
returns c =
    let after = c.sort_unstable.new.self in
    let done = c.sort_unstable.ensures in
    sorted_members c.args.cohorts.now c.args.self.now.kept.sealed after.items (rises_apart c.args.cohorts.now c.requires.rising)
    (subst (λ (ids : List ℕ). IsPermutation ids after.items) c.in_ok-ids.ensures done.permutation) (IsNonDecreasingBy-from_sort (λ x. x) after.items done.sorted)

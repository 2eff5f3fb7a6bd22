use Rattle.std.proofs.Common.{◌≤◌, Some, None, length, sym, ap, subst, ◌∙◌}
use Rattle.std.specs.List.{AllByRecursion}
use Rattle.evidence_syntax.specs.Stamps.{Stamp}
use Rattle.evidence_syntax.specs.Text.{stamp_text}
use Rattle.evidence_syntax.specs.Valid.{IsHash}
use Rattle.hash_tree.specs.Tree.{tree_path}
use Rattle.tree_renewal.specs.Lists.{lists_of}
use Rattle.archive_chain.proofs.Sizes.{stamp_size}
use Rattle.archive_chain.proofs.sequence.made.Goals as goal

pub returns-clause-short : goal.returns-clause-short
returns-clause-short c =
    let t = c.args.stamp.now in
    let hashes : AllByRecursion IsHash (tree_path t.tree.alg t.tree.leaves c.args.place) = subst (AllByRecursion IsHash) (c.as_slice.ensures ∙ c.in_ok-path.ensures) c.are_hashes.ensures in
    let size = stamp_size t c.args.values c.args.place c.requires.small c.requires.some c.requires.few c.requires.hashes hashes in
    let lists = c.in_ok-lists.ensures ∙ ap (lists_of c.args.values) c.in_ok-path.ensures in
    subst (λ (s : Stamp). length (stamp_text s) ≤ 72600)
    (sym (λ i. record { algorithm = Some (record { oid = c.oid.ensures i; params = None }); attributes = None; lists = lists i; token = c.as_slice-2.ensures i })) size

use Rattle.std.proofs.Common.{arith, ◌≡◌, ◌-◌, ℕ, [], length, refl, subst}
use Rattle.std.specs.Prelude.{IfErr}
use Rattle.hash_tree.specs.Tree.{tree_root}
use Rattle.algorithm_policy.specs.Content.{Content}
use Rattle.archive_chain.specs.Rules.{Stamps, TokenKeepsBut, TokenBreaks}
use Rattle.archive_chain.specs.declared.row.Members.TheVariants.{Run}
use Rattle.archive_chain.specs.InsideToken.{Refuses}
use Rattle.archive_chain.specs.InsideMade.{IsStampOf, IsNextRow}
use Rattle.archive_chain.proofs.Making.{count_kept, is_stamped, seal_fit, same_seal}
use Rattle.archive_chain.proofs.Tokens.{handed_on}
use Rattle.archive_chain.proofs.archive.Archive.seal.Goals as goal

pub stamped-requires : goal.stamped-requires
stamped-requires c =
    let kept = count_kept c.args.self.now.kept c.args.count c.requires.shape in
    let some = kept.0 in
    let many = c.requires.leaves in
    omega (arith, some, many)

pub returns-clause-made : goal.returns-clause-made
returns-clause-made c =
    let h = c.args.self.now in
    let alg = c.args.alg in
    let token = c.args.token.now in
    let leaves = c.args.leaves.now in
    let t = c.in_ok-stamp.stamp.value in
    let is : IsStampOf h.policy alg token leaves t = subst (λ (p : Content). IsStampOf p alg token leaves t) c.policy.ensures c.in_ok-stamp.ensures.made in
    let groups = c.groups.ensures.number in
    let pending = c.pending.ensures in
    let first : c.groups.result - c.pending.result ≡ length h.kept.sealed = omega (arith, groups, pending) in
    let row : IsNextRow h (Run (length h.kept.sealed) c.args.count) (record { most = 1; least = length h.kept.sealed }) c.next_row-row.result =
    subst (λ (n : ℕ). IsNextRow h (Run n c.args.count) (record { most = 1; least = n }) c.next_row-row.result) first c.next_row-row.ensures in record {
      fits = (is_stamped h alg token leaves t is, seal_fit h alg token leaves t is c.args.count c.next_row-row.result c.requires.shape c.requires.groups c.requires.leaves row, same_seal h alg token leaves t is c.args.count);
      leaves_are = is.tree_leaves;
      keeps = subst (λ (p : Content). TokenKeepsBut (λ says. Stamps says alg (tree_root alg leaves)) p [] token) c.policy.ensures (c.in_ok-stamp.ensures.keeps [] refl);
    }

pub returns-in_err-stamp-clause-breaks : goal.returns-in_err-stamp-clause-breaks
returns-in_err-stamp-clause-breaks c =
    subst (λ (p : Content). IfErr c.from_residual.result (Refuses (TokenBreaks p c.args.alg (tree_root c.args.alg c.args.leaves.now) [] c.args.token.now))) c.policy.ensures
    (handed_on (Refuses (TokenBreaks c.policy.result.now c.args.alg (tree_root c.args.alg c.args.leaves.now) [] c.args.token.now)) _ _ c.from_residual.ensures.1 (c.in_err-stamp.ensures.breaks [] refl))

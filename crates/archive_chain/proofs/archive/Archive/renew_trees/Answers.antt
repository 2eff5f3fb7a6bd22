use Rattle.std.proofs.Common.{arith, sym, subst}
use Rattle.std.specs.Prelude.{IfErr}
use Rattle.hash_tree.specs.Tree.{tree_root}
use Rattle.algorithm_policy.specs.Content.{Content}
use Rattle.archive_chain.specs.Rules.{Stamps, TokenKeepsBut, TokenBreaks, tokens_in}
use Rattle.archive_chain.specs.InsideToken.{Refuses, IsLatestOf}
use Rattle.archive_chain.specs.InsideMade.{IsStampOf}
use Rattle.archive_chain.proofs.Making.{trees_kept, chosen_some, is_stamped, trees_fit, same_trees}
use Rattle.archive_chain.proofs.Tokens.{handed_on}
use Rattle.archive_chain.proofs.archive.Archive.renew_trees.Goals as goal

pub latest-latest-requires : goal.latest-latest-requires
latest-latest-requires c = let chosen = trees_kept c.args.self.now.kept c.args.cohorts.now c.requires.shape in chosen.live

pub stamped-requires : goal.stamped-requires
stamped-requires c =
    let chosen = trees_kept c.args.self.now.kept c.args.cohorts.now c.requires.shape in
    let some = chosen_some c.args.self.now.kept c.args.cohorts.now c.requires.spelled chosen.live in
    let many = c.requires.leaves in
    omega (arith, some, many)

pub joined-requires-clause-live : goal.joined-requires-clause-live
joined-requires-clause-live c = let chosen = trees_kept c.args.self.now.kept c.args.cohorts.now c.requires.shape in chosen.live

pub returns-clause-made : goal.returns-clause-made
returns-clause-made c =
    let h = c.args.self.now in
    let alg = c.args.alg in
    let cohorts = c.args.cohorts.now in
    let token = c.args.token.now in
    let leaves = c.args.leaves.now in
    let t = c.in_ok-stamp.stamp.value in
    let is : IsStampOf h.policy alg token leaves t = subst (λ (p : Content). IsStampOf p alg token leaves t) c.policy.ensures c.in_ok-stamp.ensures.made in
    let latest : IsLatestOf c.policy.result.now (tokens_in cohorts h.kept.sealed) c.latest-latest.result = subst (λ (p : Content). IsLatestOf p (tokens_in cohorts h.kept.sealed) c.latest-latest.result) (sym c.policy.ensures) c.latest-latest.ensures in
    let chosen = trees_kept h.kept cohorts c.requires.shape in record {
      fits = (is_stamped h alg token leaves t is, c.in_ok-row.ensures.register_is.room, (cohorts, same_trees h alg token leaves t is cohorts, trees_fit h alg token leaves t is cohorts _ c.requires.leaves chosen c.in_ok-row.ensures));
      leaves_are = is.tree_leaves;
      keeps = subst (λ (p : Content). TokenKeepsBut (λ says. Stamps says alg (tree_root alg leaves)) p (tokens_in cohorts h.kept.sealed) token) c.policy.ensures
          (c.in_ok-stamp.ensures.keeps (tokens_in cohorts h.kept.sealed) latest);
    }

pub returns-in_err-stamp-clause-breaks : goal.returns-in_err-stamp-clause-breaks
returns-in_err-stamp-clause-breaks c =
    let covered = tokens_in c.args.cohorts.now c.args.self.now.kept.sealed in
    let latest : IsLatestOf c.policy.result.now covered c.latest-latest.result = subst (λ (p : Content). IsLatestOf p covered c.latest-latest.result) (sym c.policy.ensures) c.latest-latest.ensures in
    subst (λ (p : Content). IfErr c.from_residual.result (Refuses (TokenBreaks p c.args.alg (tree_root c.args.alg c.args.leaves.now) covered c.args.token.now))) c.policy.ensures
    (handed_on (Refuses (TokenBreaks c.policy.result.now c.args.alg (tree_root c.args.alg c.args.leaves.now) covered c.args.token.now)) _ _ c.from_residual.ensures.1 (c.in_err-stamp.ensures.breaks covered latest))

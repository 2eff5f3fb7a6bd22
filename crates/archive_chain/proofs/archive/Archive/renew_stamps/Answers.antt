use Rattle.std.proofs.Common.{arith, sym, subst}
use Rattle.std.specs.Prelude.{IfErr}
use Rattle.hash_tree.specs.Tree.{tree_root}
use Rattle.algorithm_policy.specs.Content.{Content}
use Rattle.archive_chain.specs.Rules.{Stamps, TokenKeepsBut, TokenBreaks, tokens_in}
use Rattle.archive_chain.specs.InsideToken.{Refuses, IsLatestOf}
use Rattle.archive_chain.specs.InsideMade.{IsStampOf}
use Rattle.archive_chain.proofs.Making.{stamps_kept, is_stamped, stamps_fit, same_stamps}
use Rattle.archive_chain.proofs.Tokens.{handed_on}
use Rattle.archive_chain.proofs.archive.Archive.renew_stamps.Goals as goal

pub latest-latest-requires : goal.latest-latest-requires
latest-latest-requires c = let chosen = stamps_kept c.args.self.now.kept c.args.alg c.args.cohorts.now c.requires.shape in chosen.live

pub stamped-requires : goal.stamped-requires
stamped-requires c =
    let some = c.requires.spelled.some in
    let many = c.requires.leaves in
    omega (arith, some, many)

pub longer-requires-clause-live : goal.longer-requires-clause-live
longer-requires-clause-live c = let chosen = stamps_kept c.args.self.now.kept c.args.alg c.args.cohorts.now c.requires.shape in chosen.live

pub returns-clause-made : goal.returns-clause-made
returns-clause-made c =
    let h = c.args.self.now in
    let alg = c.args.alg in
    let cohorts = c.args.cohorts.now in
    let token = c.args.token.now in
    let leaves = c.args.leaves.now in
    let t = c.in_ok-stamp.stamp.value in
    let is : IsStampOf h.policy alg token leaves t = subst (λ (p : Content). IsStampOf p alg token leaves t) c.policy.ensures c.in_ok-stamp.ensures.made in
    let latest : IsLatestOf c.policy.result.now (tokens_in cohorts h.kept.sealed) c.latest-latest.result = subst (λ (p : Content). IsLatestOf p (tokens_in cohorts h.kept.sealed) c.latest-latest.result) (sym c.policy.ensures) c.latest-latest.ensures in
    let chosen = stamps_kept h.kept alg cohorts c.requires.shape in record {
      fits = (is_stamped h alg token leaves t is, (cohorts, same_stamps h alg token leaves t is cohorts, stamps_fit h alg token leaves t is cohorts c.in_ok-longer.longer.items c.requires.leaves c.requires.spelled.few chosen c.in_ok-longer.ensures));
      leaves_are = is.tree_leaves;
      keeps = subst (λ (p : Content). TokenKeepsBut (λ says. Stamps says alg (tree_root alg leaves)) p (tokens_in cohorts h.kept.sealed) token) c.policy.ensures
          (c.in_ok-stamp.ensures.keeps (tokens_in cohorts h.kept.sealed) latest);
    }

pub returns-in_err-stamp-clause-breaks : goal.returns-in_err-stamp-clause-breaks
returns-in_err-stamp-clause-breaks c =
    let covered = tokens_in c.args.cohorts.now c.args.self.now.kept.sealed in
    let latest : IsLatestOf c.policy.result.now covered c.latest-latest.result = subst (λ (p : Content). IsLatestOf p covered c.latest-latest.result) (sym c.policy.ensures) c.latest-latest.ensures in
    subst (λ (p : Content). IfErr c.from_residual.result (Refuses (TokenBreaks p c.args.alg (tree_root c.args.alg c.args.leaves.now) covered c.args.token.now))) c.policy.ensures
    (handed_on (Refuses (TokenBreaks c.policy.result.now c.args.alg (tree_root c.args.alg c.args.leaves.now) covered c.args.token.now)) _ _ c.from_residual.ensures.1 (c.in_err-stamp.ensures.breaks covered latest))

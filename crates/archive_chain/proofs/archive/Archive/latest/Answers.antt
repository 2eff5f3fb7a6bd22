use Rattle.std.proofs.Common.{ℕ, List, take, sym, subst}
use Rattle.std.proofs.lemmas.List.{take_more, take_all}
use Rattle.archive_chain.specs.InsideToken.{IsLatestIn, IsLatestSoFar}
use Rattle.archive_chain.proofs.Times.{latest_is}
use Rattle.archive_chain.proofs.archive.Archive.latest.Goals as goal

pub loop-cohort-preserved : goal.loop-cohort-preserved
loop-cohort-preserved c =
    let i : ℕ = c.loop-cohort.cohort-index in
    subst (λ (l : List ℕ). IsLatestIn c.args.self.now.kept c.args.self.now.policy l c.later_with.result) (sym (take_more c.args.cohorts.now i 0 c.loop-cohort-test.true))
    (c.later_with.ensures (take i c.args.cohorts.now) c.loop-cohort.invariant)

pub returns : goal.returns
returns c =
    latest_is c.args.self.now.kept c.args.self.now.policy c.args.cohorts.now c.loop-cohort.latest c.share_lasts.ensures c.requires
    (subst (λ (l : List ℕ). IsLatestSoFar c.args.self.now.kept c.args.self.now.policy l c.loop-cohort.latest) (take_all c.loop-cohort.cohort-index c.args.cohorts.now c.loop-cohort-test.false) c.loop-cohort.invariant)

use Rattle.std.proofs.Common.{ℕ, List, Some, take, sym, subst}
use Rattle.std.proofs.lemmas.List.{take_more}
use Rattle.archive_chain.specs.InsideFull.{IsPeakSoFar}
use Rattle.archive_chain.proofs.archive.Archive.peak_in.Goals as goal

pub loop-cohort-preserved : goal.loop-cohort-preserved
loop-cohort-preserved c =
    let i : ℕ = c.loop-cohort.cohort-index in
    subst (λ (l : List ℕ). IsPeakSoFar c.args.self.now.kept.sealed l (Some c.higher_with.result)) (sym (take_more c.args.cohorts.now i 0 c.loop-cohort-test.true))
    (c.higher_with.ensures (take i c.args.cohorts.now) c.loop-cohort.invariant)

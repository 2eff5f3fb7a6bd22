use Rattle.std.proofs.Common.{Some, ◌∷◌, [], ◌++◌, sym, subst, ◌∙◌}
use Rattle.archive_chain.specs.declared.peak.Peak.{Peak}
use Rattle.archive_chain.specs.InsideFull.{IsPeakSoFar}
use Rattle.archive_chain.proofs.Live.{named_live}
use Rattle.archive_chain.proofs.Fullest.{first_peak, more_peak}
use Rattle.archive_chain.proofs.archive.Archive.higher_with.Goals as goal

pub unreachable-requires : goal.unreachable-requires
unreachable-requires c =
    let live = named_live c.args.cohort c.args.self.now.kept.sealed in
    let none = c.in-None.ensures in
    let some = c.requires in
    let wrong = sym none ∙ live ∙ some in cc

pub returns-in-Some-so_far : goal.returns-in-Some-so_far
returns-in-Some-so_far c = λ names so_far.
    subst (λ (p : Peak). IsPeakSoFar c.args.self.now.kept.sealed (names ++ c.args.cohort ∷ []) (Some p)) (sym c.higher.ensures)
    (more_peak c.args.self.now.kept.sealed names c.args.cohort c.in-Some.peak c.in-Some-so_far.so_far c.in-Some.ensures (subst (IsPeakSoFar c.args.self.now.kept.sealed names) c.in-Some-so_far.is so_far))

pub returns-in-None-so_far : goal.returns-in-None-so_far
returns-in-None-so_far c = λ names so_far. first_peak c.args.self.now.kept.sealed names c.args.cohort c.in-Some.peak c.in-Some.ensures (subst (IsPeakSoFar c.args.self.now.kept.sealed names) c.in-None-so_far.is so_far)

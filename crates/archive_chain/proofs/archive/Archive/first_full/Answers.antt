use Rattle.std.proofs.Common.{List, ℕ, get_or, take, sym, ap, ◌∙◌}
use Rattle.std.proofs.lemmas.List.{take_more}
use Rattle.archive_chain.specs.Rules.{first_full}
use Rattle.archive_chain.specs.InsidePeak.{earlier}
use Rattle.archive_chain.proofs.Fullest.{full_nothing, full_both}
use Rattle.archive_chain.proofs.archive.Archive.first_full.Goals as goal

pub loop-cohort-init : goal.loop-cohort-init
loop-cohort-init c = sym (full_nothing 0 c.args.self.now.kept.sealed)

pub loop-cohort-preserved : goal.loop-cohort-preserved
loop-cohort-preserved c =
    let sealed = c.args.self.now.kept.sealed in
    let i : ℕ = c.loop-cohort.cohort-index in
    let cohort : ℕ = get_or c.args.cohorts.now i 0 in
    c.earlier-first.ensures
    ∙ (λ j. earlier (c.loop-cohort.invariant j) (c.full_of.ensures j))
    ∙ sym (full_both (take i c.args.cohorts.now) cohort 0 sealed)
    ∙ sym (ap (λ (l : List ℕ). first_full l 0 sealed) (take_more c.args.cohorts.now i 0 c.loop-cohort-test.true))

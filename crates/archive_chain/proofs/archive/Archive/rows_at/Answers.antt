use Rattle.std.proofs.Common.{ℕ, List, [], ◌∷◌, ◌++◌, take, get_or, sym, subst}
use Rattle.std.proofs.lemmas.List.{take_more}
use Rattle.archive_chain.specs.InsidePieces.{AreAt}
use Rattle.archive_chain.proofs.Gathering.{one_at}
use Rattle.archive_chain.proofs.archive.Archive.rows_at.Goals as goal

pub loop-cohort-preserved : goal.loop-cohort-preserved
loop-cohort-preserved c =
    let i : ℕ = c.loop-cohort.cohort-index in
    let before : List ℕ = take i c.args.cohorts.now in
    let cohort : ℕ = get_or c.args.cohorts.now i 0 in
    let table = c.args.self.now.room.table in
    subst (λ (l : List ℕ). AreAt table c.push.new.self.items l) (sym (take_more c.args.cohorts.now i 0 c.loop-cohort-test.true))
    (subst (λ (ps : List ℕ). AreAt table ps (before ++ cohort ∷ [])) (sym c.in_ok-push.ensures.items)
    (one_at table c.loop-cohort.places.items before c.row_at.result cohort c.loop-cohort.invariant c.row_at.ensures.at))

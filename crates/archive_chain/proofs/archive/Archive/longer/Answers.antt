use Rattle.std.proofs.Common.{arith, ◌≡◌, ◌+◌, ℕ, List, [], ◌∷◌, ◌++◌, length, take, get_or, sym, subst, length-take-le}
use Rattle.std.proofs.lemmas.List.{take_more}
use Rattle.archive_chain.specs.declared.row.Longer.{Longer}
use Rattle.archive_chain.specs.InsidePieces.{IsAdded, AreAdded}
use Rattle.archive_chain.proofs.Gathering.{one_added}
use Rattle.archive_chain.proofs.archive.Archive.longer.Goals as goal

pub loop-place-preserved : goal.loop-place-preserved
loop-place-preserved c =
    let i : ℕ = c.loop-place.place in
    let less = c.loop-place-test.true in
    let before : List ℕ = take i c.args.cohorts.now in
    let cohort : ℕ = get_or c.args.cohorts.now i 0 in
    let table = c.args.self.now.room.table in
    let entries = c.args.self.now.kept.entries in
    let many = length-take-le i c.args.cohorts.now (omega (arith, less)) in
    let here : i ≡ 0 + length before = omega (arith, many) in
    subst (λ (l : List ℕ). AreAdded table entries 0 c.push.new.self.items l) (sym (take_more c.args.cohorts.now i 0 less))
    (subst (λ (ls : List Longer). AreAdded table entries 0 ls (before ++ cohort ∷ [])) (sym c.in_ok-push.ensures.items)
    (one_added table entries 0 c.loop-place.all.items before c.in_ok-longer.longer cohort c.loop-place.invariant
    (subst (λ (p : ℕ). IsAdded table entries p c.in_ok-longer.longer cohort) here c.in_ok-longer.ensures)))

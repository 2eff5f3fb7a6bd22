use Rattle.std.proofs.Common.{◌≡◌, ℕ, List, ◌++◌, take, get_or, true, sym, ap, ◌∙◌}
use Rattle.std.proofs.lemmas.List.{take_more}
use Rattle.std.proofs.lemmas.Option.{slice_get-get_or}
use Rattle.archive_chain.specs.Rules.{is_live}
use Rattle.archive_chain.specs.InsideRows.{joined}
use Rattle.archive_chain.proofs.Live.{named_live}
use Rattle.archive_chain.proofs.Indexing.{all_at}
use Rattle.archive_chain.proofs.Gathering.{one_joined}
use Rattle.archive_chain.proofs.archive.Archive.all_members.Goals as goal

pub members_of-requires : goal.members_of-requires
members_of-requires c =
    let i : ℕ = c.loop-cohort.cohort-index in
    let cohort : ℕ = get_or c.args.cohorts.now i 0 in
    named_live cohort c.args.self.now.kept.sealed
    ∙ all_at (λ x. is_live c.args.self.now.kept x ≡ true) c.args.cohorts.now i cohort c.requires (slice_get-get_or c.args.cohorts.now i 0 c.loop-cohort-test.true)

pub loop-cohort-preserved : goal.loop-cohort-preserved
loop-cohort-preserved c =
    let i : ℕ = c.loop-cohort.cohort-index in
    let before : List ℕ = take i c.args.cohorts.now in
    let cohort : ℕ = get_or c.args.cohorts.now i 0 in
    let sealed = c.args.self.now.kept.sealed in
    let more = c.as_slice.ensures ∙ c.in_ok-members.ensures ∙ c.members_of.ensures.members in
    c.in_ok-extend_from_slice.ensures.items
    ∙ (λ j. c.loop-cohort.invariant j ++ more j)
    ∙ sym (one_joined before cohort sealed)
    ∙ sym (ap (λ (l : List ℕ). joined l sealed) (take_more c.args.cohorts.now i 0 c.loop-cohort-test.true))

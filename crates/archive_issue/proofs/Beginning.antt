-- After each history the first cover of a group that was sealed begins a chain.
use Rattle.std.proofs.Common.{◌≡◌, ℕ, zero, suc, ◌+◌, ◌<◌, true, false, List, [], ◌∷◌, ◌++◌, length, map, refl, arith}
use Rattle.std.specs.Prelude.{slice_index_or}
use Rattle.std.specs.List.{AllByRecursion}
use Rattle.entry_codec.specs.declared.entry.Entry.{Entry}
use Rattle.entry_codec.specs.declared.entry.Entry.TheVariants.{Deposit, Seal, RenewStamps, RenewTrees, SetPolicy}
use Rattle.archive_chain.specs.Kept.{Cover, Kept, is_in, place_of, cohort_of}
use Rattle.archive_chain.specs.Steps.{cover_at, sealed_from, renewed_from, stamped_in, next}
use Rattle.archive_chain.specs.History.{State, after, state_from, state_of, start}
use Rattle.archive_chain.proofs.Sizes.{chosen}
use Rattle.archive_issue.proofs.Histories.{each_append}

-- its first begins a chain
abbrev pub Begins : List Cover → Type 0
Begins [] = ⊥
Begins (c ∷ covers) = c.begins ≡ true

abbrev AllBegin : List (List Cover) → Type 0
AllBegin groups = AllByRecursion Begins groups

one_more : (covers : List Cover) (c : Cover) → Begins covers → Begins (covers ++ c ∷ [])
one_more [] c begins = absurd begins
one_more (d ∷ covers) c begins = begins

sealed_begin : (cover : ℕ → Cover) (place n : ℕ) → ((k : ℕ) → (cover k).begins ≡ true) → AllBegin (sealed_from cover place n)
sealed_begin cover place zero begins = tt
sealed_begin cover place (suc n) begins = (begins place, sealed_begin cover (place + 1) n begins)

stamped_begin : (cover : ℕ → Cover) (cohorts : List ℕ) (groups : List (List Cover)) → AllBegin groups → AllBegin (map (stamped_in cover cohorts) groups)
stamped_begin cover cohorts [] all = tt
stamped_begin cover cohorts (g ∷ groups) all =
    let c = cover (place_of cohorts (cohort_of g)) in
    (chosen Begins (is_in cohorts g) (g ++ c ∷ []) g (one_more g c all.0) all.0, stamped_begin cover cohorts groups all.1)

renewed_begin : (cover : ℕ → Cover) (cohorts : List ℕ) (place : ℕ) (groups : List (List Cover)) → AllBegin groups → AllBegin (renewed_from cover cohorts place groups)
renewed_begin cover cohorts place [] all = tt
renewed_begin cover cohorts place (g ∷ groups) all =
    chosen AllBegin (is_in cohorts g) ((g ++ cover place ∷ []) ∷ renewed_from cover cohorts (place + 1) groups) (g ∷ renewed_from cover cohorts place groups)
    (one_more g (cover place) all.0, renewed_begin cover cohorts (place + 1) groups all.1) (all.0, renewed_begin cover cohorts place groups all.1)

begins_next : (k : Kept) (e : Entry) → AllBegin k.sealed → AllBegin (next k e).sealed
begins_next k (Deposit groups) all = all
begins_next k (Seal alg count token) all = each_append Begins k.sealed (sealed_from (cover_at k.entries true alg token) 0 count) all (sealed_begin (cover_at k.entries true alg token) 0 count (λ n. refl))
begins_next k (RenewStamps alg cohorts token) all = stamped_begin (cover_at k.entries false alg token) cohorts k.sealed all
begins_next k (RenewTrees alg cohorts token) all = renewed_begin (cover_at k.entries true alg token) cohorts 0 k.sealed all
begins_next k (SetPolicy text) all = all

all_begin : (entries : List Entry) (s : State) → AllBegin s.kept.sealed → AllBegin (state_from s entries).kept.sealed
all_begin [] s all = all
all_begin (e ∷ entries) s all = all_begin entries (after s e) (begins_next s.kept e all)

begins_at : (groups : List (List Cover)) (id : ℕ) → AllBegin groups → id < length groups → Begins (slice_index_or groups id [])
begins_at [] id all within = absurd (omega (arith, within))
begins_at (g ∷ groups) zero all within = all.0
begins_at (g ∷ groups) (suc id) all within = begins_at groups id all.1 (omega (arith, within))

pub group_begins : (history : List Entry) (id : ℕ) → id < length (state_of history).kept.sealed → Begins (slice_index_or (state_of history).kept.sealed id [])
group_begins history id within = begins_at (state_of history).kept.sealed id (all_begin history start tt) within

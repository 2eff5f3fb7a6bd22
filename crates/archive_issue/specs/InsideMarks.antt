-- The marks of time-stamps, by whether each begins a chain.
use Rattle.std.specs.Prelude.{ℕ, ◌+◌, Bool, List, [], ◌∷◌, if◌then◌else◌}
use Rattle.evidence_verify.specs.Marks.{Mark}
use Rattle.archive_chain.specs.declared.coverings.Covering.{Covering}

-- the chain of a time-stamp that follows one of this chain
abbrev pub chain_after : ℕ → Bool → ℕ
chain_after chain begins = if begins then chain + 1 else chain

-- the number in its chain of a time-stamp that follows this one
abbrev pub stamp_after : ℕ → Bool → ℕ
stamp_after stamp begins = if begins then 0 else stamp + 1

-- the mark of a time-stamp in its place
abbrev pub mark_at : ℕ → ℕ → Covering → Mark
mark_at chain stamp c = record { chain = chain; stamp = stamp; alg = c.alg; time = c.time; sid = c.sid.now }

-- the marks of those that follow one in this place
abbrev pub marks_after : ℕ → ℕ → List Covering → List Mark
marks_after chain stamp [] = []
marks_after chain stamp (c ∷ later) =
    mark_at (chain_after chain c.begins) (stamp_after stamp c.begins) c ∷ marks_after (chain_after chain c.begins) (stamp_after stamp c.begins) later

-- the marks of all
abbrev pub marks_by : List Covering → List Mark
marks_by [] = []
marks_by (c ∷ later) = mark_at 0 0 c ∷ marks_after 0 0 later

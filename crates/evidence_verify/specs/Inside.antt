-- What private functions say of each other: how time-stamps are seen in memory.
use Rattle.std.specs.Prelude.{⊤, List, [], ◌∷◌, map}
use Rattle.evidence_syntax.specs.Stamps.{Stamp, stamp_seen, chains_seen}
use Rattle.token_check.specs.declared.fault.TokenFault.{TokenFault}
use Rattle.token_check.specs.declared.fault.TokenFault.TheVariants as tokens
use Rattle.token_check.specs.Sound.{stamp_seen as says_seen}
use Rattle.evidence_verify.specs.declared.place.Place.{Place as HeldPlace}
use Rattle.evidence_verify.specs.declared.stamps.Checked.{Checked as HeldChecked}
use Rattle.evidence_verify.specs.declared.stamps.StampFault.{StampFault}
use Rattle.evidence_verify.specs.declared.stamps.StampFault.TheVariants as faults
use Rattle.evidence_verify.specs.declared.owed.Owed.{Owed as HeldOwed}
use Rattle.evidence_verify.specs.declared.verdict.Verdict.{Verdict}
use Rattle.evidence_verify.specs.declared.verdict.Verdict.TheVariants.{BadStamp}
use Rattle.evidence_verify.specs.Stamps.{Place, Checked}
use Rattle.evidence_verify.specs.InsideChains.{BeginsWith}
use Rattle.evidence_verify.specs.Values.{Owed}

-- a place
abbrev pub place_seen : HeldPlace → Place
place_seen p = record { older = chains_seen p.older.now; chain = p.chain; stamp = p.stamp; ats = stamp_seen p.ats.now }

-- a time-stamp in its place
abbrev pub checked_seen : HeldChecked → Checked
checked_seen c = record { place = place_seen c.place; says = says_seen c.says }

-- a time-stamp and what it has to cover
abbrev pub owed_seen : HeldOwed → Owed
owed_seen d = record { stamp = checked_seen d.stamp; values = d.values.items }

-- the places of time-stamps
abbrev pub places_seen : List HeldChecked → List Place
places_seen stamps = map (λ (c : Checked). c.place) (map checked_seen stamps)

-- The chains before each place begin with those before the place before it, and those of the first with these.
abbrev pub GoOn : List (List Stamp) → List Place → Type 0
GoOn passed [] = ⊤
GoOn passed (p ∷ rest) = BeginsWith passed p.older × GoOn p.older rest

-- what is said of a place whose token was not accepted
abbrev pub stamp_fault : Place → TokenFault → StampFault
stamp_fault p (tokens.Check check) = faults.Bad (BadStamp p.chain p.stamp check)
stamp_fault p tokens.Memory = faults.Memory

-- The verdict that is blamed is so; want of memory blames none.
abbrev pub Blames : (Verdict → Type 0) → StampFault → Type 0
Blames P (faults.Bad verdict) = P verdict
Blames P faults.Memory = ⊤

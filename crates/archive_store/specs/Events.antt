-- What happens to a store between its openings: steps, and stops of the machine.
use Rattle.std.specs.Prelude.{◌≡◌, ◌⊎◌, ℕ, ◌+◌, ⊤, List, [], ◌∷◌, ◌++◌, length, take}
use Rattle.entry_codec.specs.declared.entry.Entry.{Entry}
use Rattle.entry_codec.specs.Spelling.{IsEntry}
use Rattle.archive_chain.specs.History.{state_of, IsLegal, Legal}

-- A step that was acknowledged; one that was begun and not acknowledged; a stop after which so many of the steps that were begun
-- since the opening are found.
pub data Event : Type 0 where
  done : Entry → Event
  torn : Entry → Event
  stop : ℕ → Event

-- an opened store: the history that was found, the steps that were begun since, and how many of them were acknowledged
pub record Opening : Type 0 where
  pub found : List Entry
  pub begun : List Entry
  pub acknowledged : ℕ

-- a store that was just opened over this history
abbrev pub opened : List Entry → Opening
opened history = record { found = history; begun = []; acknowledged = 0 }

-- the history with all steps that were begun
abbrev pub history_of : Opening → List Entry
history_of o = o.found ++ o.begun

-- all steps so far were acknowledged, and the entry is legal after them
pub record MayBegin (o : Opening) (e : Entry) : Type 0 where
  pub settled : o.acknowledged ≡ length o.begun
  pub spelled : IsEntry e
  pub legal : IsLegal (state_of (history_of o)) e

-- A step may begin; a stop leaves the steps that were acknowledged, or all that were begun.
abbrev pub MayHappen : Opening → Event → Type 0
MayHappen o (done e) = MayBegin o e
MayHappen o (torn e) = MayBegin o e
MayHappen o (stop k) = (k ≡ o.acknowledged) ⊎ (k ≡ length o.begun)

-- the store after an event; after a stop it is opened again
abbrev pub after_event : Opening → Event → Opening
after_event o (done e) = record { found = o.found; begun = o.begun ++ e ∷ []; acknowledged = o.acknowledged + 1 }
after_event o (torn e) = record { found = o.found; begun = o.begun ++ e ∷ []; acknowledged = o.acknowledged }
after_event o (stop k) = opened (o.found ++ take k o.begun)

-- each of the events may happen after those before it
abbrev pub Happens : Opening → List Event → Type 0
Happens o [] = ⊤
Happens o (v ∷ events) = MayHappen o v × Happens (after_event o v) events

-- the store after all of them
abbrev pub after_events : Opening → List Event → Opening
after_events o [] = o
after_events o (v ∷ events) = after_events (after_event o v) events

-- the history that was found at the last opening, with the steps since
abbrev pub found_after : List Entry → List Event → List Entry
found_after history events = history_of (after_events (opened history) events)

-- These are the steps of the events: each that was acknowledged, in order and once; of one that was not acknowledged none or that one,
-- and nothing comes between it and the stop.
abbrev pub AreSteps : List Event → List Entry → Type 0
AreSteps [] steps = steps ≡ []
AreSteps (done e ∷ events) steps = (rest : List Entry) × (steps ≡ e ∷ rest) × AreSteps events rest
AreSteps (torn e ∷ []) steps = steps ≡ e ∷ []
AreSteps (torn e ∷ stop k ∷ events) steps = AreSteps events steps ⊎ ((rest : List Entry) × (steps ≡ e ∷ rest) × AreSteps events rest)
AreSteps (torn e ∷ done f ∷ events) steps = ⊥
AreSteps (torn e ∷ torn f ∷ events) steps = ⊥
AreSteps (stop k ∷ events) steps = AreSteps events steps

-- What is found after the events is legal, and it is the history of before with their steps.
pub record FindsEachStep (history : List Entry) (events : List Event) : Type 0 where
  pub legal : Legal (found_after history events)
  pub steps : List Entry
  pub found : found_after history events ≡ history ++ steps
  pub are_steps : AreSteps events steps

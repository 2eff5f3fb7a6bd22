-- The calls of an authority, and how many of them it gave no reply to.
use Rattle.std.specs.Prelude.{◌≡◌, ◌⊎◌, ℕ, ◌+◌, List, [], ◌∷◌, ◌++◌, Some, None, Result, Ok, Err, IfOk, IfErr, IsErrOf, Vec}
use Rattle.civil_moment.specs.declared.moment.Moment.{Moment}
use Rattle.ev_world.specs.declared.authority.StampCall.{StampCall}
use Rattle.ev_world.specs.declared.authority.StampFault.{StampFault}
use Rattle.ev_world.specs.declared.authority.StampFault.TheVariants.{Failed, Memory}

-- A call is added with its reply, or with none where it failed. One that found no memory isn't added.
pub record IsListed {A : Type 0} (old new : List StampCall) (now : Moment) (request : List ℕ) (result : Result (Vec ℕ A) StampFault) : Type 0 where
  pub replied : IfOk result (λ reply. new ≡ old ++ record { now = now; request = request; reply = Some reply.items } ∷ [])
  pub failed : IsErrOf result Failed → new ≡ old ++ record { now = now; request = request; reply = None } ∷ []
  pub memory : IsErrOf result Memory → new ≡ old

-- An answer is handed on as it is. Only for a reply there may be no memory.
abbrev pub HandsOn : {A : Type 0} → Result (Vec ℕ A) StampFault → Result (Vec ℕ A) StampFault → Type 0
HandsOn (Ok reply) result = IfOk result (λ given. given.items ≡ reply.items) × IfErr result (λ fault. fault ≡ Memory)
HandsOn (Err fault) result = result ≡ Err fault

-- What the list of an authority has gained that was asked on behalf of another one, by what that one answers: its reply, seen
-- as it is handed out, or none; where that one found no memory, nothing or a reply.
pub record IsPassedOn {A : Type 0} (seen : List ℕ → List ℕ) (old new : List StampCall) (now : Moment) (request : List ℕ) (result : Result (Vec ℕ A) StampFault) : Type 0 where
  pub replied : IfOk result (λ reply. (inner : List ℕ) × (reply.items ≡ seen inner) × (new ≡ old ++ record { now = now; request = request; reply = Some inner } ∷ []))
  pub failed : IsErrOf result Failed → new ≡ old ++ record { now = now; request = request; reply = None } ∷ []
  pub memory : IsErrOf result Memory → (new ≡ old) ⊎ ((inner : List ℕ) × (new ≡ old ++ record { now = now; request = request; reply = Some inner } ∷ []))

-- one without a reply counts
abbrev pub no_reply : StampCall → ℕ
no_reply call = elim call.reply [ Some bytes ↦ 0 | None ↦ 1 ]

-- the count of an authority's faults: the calls without a reply
abbrev pub unanswered : List StampCall → ℕ
unanswered [] = 0
unanswered (call ∷ calls) = no_reply call + unanswered calls

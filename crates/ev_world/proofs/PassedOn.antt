-- An answer that is handed on by another authority.
use Rattle.std.proofs.Common.{◌≡◌, inl, inr, ℕ, List, Result, Ok, Err, refl, sym, ◌∙◌, subst}
use Rattle.std.specs.Prelude.{Vec}
use Rattle.civil_moment.specs.declared.moment.Moment.{Moment}
use Rattle.ev_world.specs.declared.authority.StampCall.{StampCall}
use Rattle.ev_world.specs.declared.authority.StampFault.{StampFault}
use Rattle.ev_world.specs.Calls.{IsListed, HandsOn, IsPassedOn}

-- asked by itself
pub listed_passed : {A : Type 0} (old new : List StampCall) (now : Moment) (request : List ℕ) (result : Result (Vec ℕ A) StampFault) → IsListed old new now request result → IsPassedOn (λ b. b) old new now request result
listed_passed old new now request (Ok reply) listed = record { replied = (reply.items, refl, listed.replied); failed = listed.failed; memory = λ e. inl (listed.memory e) }
listed_passed old new now request (Err fault) listed = record { replied = tt; failed = listed.failed; memory = λ e. inl (listed.memory e) }

-- a reply that is seen otherwise
pub reply_passed : {A : Type 0} (seen : List ℕ → List ℕ) (old new : List StampCall) (now : Moment) (request : List ℕ) (reply given : Vec ℕ A) → given.items ≡ seen reply.items
    → IsListed old new now request (Ok reply) → IsPassedOn seen old new now request (Ok given)
reply_passed seen old new now request reply given is listed = record { replied = (reply.items, is, listed.replied); failed = λ e. absurd cc; memory = λ e. absurd cc }

pub fault_passed : {A : Type 0} (seen : List ℕ → List ℕ) (old new : List StampCall) (now : Moment) (request : List ℕ) (fault : StampFault) (result : Result (Vec ℕ A) StampFault) → result ≡ Err fault
    → IsListed old new now request result → IsPassedOn seen old new now request result
fault_passed seen old new now request fault result is listed = subst (IsPassedOn seen old new now request) (sym is)
    (let same : IsListed old new now request (Err fault) = subst (IsListed old new now request) is listed in record { replied = tt; failed = same.failed; memory = λ e. inl (same.memory e) })

-- and handed on
pub handed_passed : {A : Type 0} (seen : List ℕ → List ℕ) (old new : List StampCall) (now : Moment) (request : List ℕ) (answer result : Result (Vec ℕ A) StampFault) → HandsOn answer result
    → IsPassedOn seen old new now request answer → IsPassedOn seen old new now request result
handed_passed seen old new now request (Ok reply) (Ok given) hands passed = record {
  replied = (passed.replied.0, hands.0 ∙ passed.replied.1, passed.replied.2);
  failed = λ e. absurd cc;
  memory = λ e. absurd cc;
}
handed_passed seen old new now request (Ok reply) (Err fault) hands passed = record {
  replied = tt;
  failed = λ e. absurd (cc (e, hands.1));
  memory = λ e. inr (passed.replied.0, passed.replied.2);
}
handed_passed seen old new now request (Err fault) result hands passed = subst (IsPassedOn seen old new now request) (sym hands) passed

-- asked what the request is
pub at_request : {A : Type 0} (seen : List ℕ → List ℕ) (old new : List StampCall) (now : Moment) (asked request : List ℕ) (result : Result (Vec ℕ A) StampFault) → asked ≡ request
    → IsPassedOn seen old new now asked result → IsPassedOn seen old new now request result
at_request seen old new now asked request result is = subst (λ (r : List ℕ). IsPassedOn seen old new now r result) is

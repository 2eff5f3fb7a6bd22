-- The first token that is not sound.
use Rattle.std.proofs.Common.{◌≡◌, ℕ, ◌+◌, ◌<◌, List, ◌++◌, length, drop, get_or, map, refl, sym, ap, ◌∙◌}
use Rattle.std.specs.List.{AllByRecursion}
use Rattle.algorithm_policy.specs.Content.{Content}
use Rattle.token_check.specs.declared.fault.Check.{Check}
use Rattle.token_check.specs.declared.fault.TokenFault.{TokenFault}
use Rattle.token_check.specs.declared.fault.TokenFault.TheVariants as tokens
use Rattle.token_check.specs.Fault.{Fails}
use Rattle.evidence_verify.specs.declared.place.Place.{Place as HeldPlace}
use Rattle.evidence_verify.specs.Stamps.{Checked, IsSound}
use Rattle.evidence_verify.specs.Verdict.{IsBadStamp}
use Rattle.evidence_verify.specs.Inside.{place_seen, stamp_fault, Blames}
use Rattle.evidence_verify.proofs.Turns.{drop_here}

-- the token in this place is not accepted, and those before it are sound
pub blamed : (policy : Content) (places : List HeldPlace) (i : ℕ) (p : HeldPlace) (before : List Checked) (fault : TokenFault) → i < length places → p ≡ get_or places i p
    → map (λ (c : Checked). c.place) before ++ map place_seen (drop i places) ≡ map place_seen places
    → AllByRecursion (IsSound policy) before
    → ((check : Check) → fault ≡ tokens.Check check → Fails policy p.ats.now.token.now check)
    → Blames (IsBadStamp policy (map place_seen places)) (stamp_fault (place_seen p) fault)
blamed policy places i p before tokens.Memory lt is in_place sound fails = tt
blamed policy places i p before (tokens.Check check) lt is in_place sound fails = record {
  bad = place_seen p;
  check = check;
  first = record {
    before = before;
    after = map place_seen (drop (i + 1) places);
    in_place = ap (λ l. map (λ (c : Checked). c.place) before ++ map place_seen l) (sym (drop_here places i p lt is)) ∙ in_place;
    sound = sound;
    fails = fails check refl;
  };
  blames = refl;
}

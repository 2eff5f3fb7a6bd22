use Rattle.std.proofs.Common.{◌≡◌, ◌++◌, drop, map}
use Rattle.std.specs.List.{AllByRecursion}
use Rattle.evidence_verify.specs.Stamps.{Checked, IsSound}
use Rattle.evidence_verify.specs.Inside.{place_seen, checked_seen}
use Rattle.evidence_verify.proofs.stamps.sound_stamps.Given as goal

abbrev pub invariant-loop-place : goal.invariant-loop-place
invariant-loop-place l =
    record {
      in_place : map (λ (c : Checked). c.place) (map checked_seen l.stamps.items) ++ map place_seen (drop l.place-index l.places) ≡ map place_seen l.fn.places;
      sound : AllByRecursion (IsSound l.policy) (map checked_seen l.stamps.items);
    }

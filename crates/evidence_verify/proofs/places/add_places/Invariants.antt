use Rattle.std.proofs.Common.{◌≡◌, ◌++◌, length, drop, map}
use Rattle.std.specs.List.{AllByRecursion}
use Rattle.evidence_syntax.specs.Stamps.{stamp_seen, chains_seen}
use Rattle.evidence_verify.specs.Stamps.{places_in}
use Rattle.evidence_verify.specs.InsideChains.{HasTree}
use Rattle.evidence_verify.specs.Inside.{place_seen}
use Rattle.evidence_verify.proofs.places.add_places.Given as goal

abbrev pub invariant-loop-ats : goal.invariant-loop-ats
invariant-loop-ats l =
    record {
      counted : l.stamp ≡ l.ats-index;
      numbered : l.chain ≡ length l.older;
      trees : AllByRecursion HasTree (map stamp_seen (drop l.ats-index l.stamps));
      added : map place_seen l.places.items ++ places_in (chains_seen l.older) l.stamp (map stamp_seen (drop l.ats-index l.stamps))
          ≡ map place_seen l.initial.places.items ++ places_in (chains_seen l.fn.older) 0 (map stamp_seen l.fn.stamps);
    }

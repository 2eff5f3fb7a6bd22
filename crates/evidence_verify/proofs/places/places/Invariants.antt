use Rattle.std.proofs.Common.{◌≡◌, ◌++◌, drop, take, map}
use Rattle.std.specs.List.{AllByRecursion}
use Rattle.evidence_syntax.specs.Stamps.{chains_seen}
use Rattle.evidence_verify.specs.Stamps.{places_after, places_of}
use Rattle.evidence_verify.specs.InsideChains.{IsReadable}
use Rattle.evidence_verify.specs.Inside.{place_seen}
use Rattle.evidence_verify.proofs.places.places.Given as goal

abbrev pub invariant-loop-chain : goal.invariant-loop-chain
invariant-loop-chain l =
    record {
      counted : l.number ≡ l.chain-index;
      readable : AllByRecursion IsReadable (chains_seen (drop l.chain-index l.chains));
      added : map place_seen l.places.items ++ places_after (chains_seen (take l.number l.chains)) (chains_seen (drop l.chain-index l.chains))
          ≡ places_of (chains_seen l.fn.chains);
    }

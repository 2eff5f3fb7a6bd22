use Rattle.std.proofs.Common.{◌+◌, ◌++◌, take, map, sym, ap, subst, ◌∙◌}
use Rattle.std.specs.List.{AllByRecursion}
use Rattle.std.proofs.lemmas.List.{take-map}
use Rattle.evidence_syntax.specs.Stamps.{stamp_seen, chain_seen, chains_seen}
use Rattle.evidence_verify.specs.Stamps.{places_in}
use Rattle.evidence_verify.specs.InsideChains.{AreShort, IsReadable}
use Rattle.evidence_verify.specs.Inside.{place_seen}
use Rattle.evidence_verify.proofs.Turns.{drop_here, next_places}
use Rattle.evidence_verify.proofs.places.places.Goals as goal

pub add_places-requires-clause-short : goal.add_places-requires-clause-short
add_places-requires-clause-short c = subst AreShort (take-map chain_seen c.loop-chain.number c.args.chains.now) (c.requires.short c.loop-chain.number)

pub loop-chain-preserved : goal.loop-chain-preserved
loop-chain-preserved c =
    let l = c.loop-chain in
    let chains = c.args.chains.now in
    let x = c.chain-item.result in
    let added = c.in_ok-add_places.ensures ∙ ap (λ s. map place_seen l.places.items ++ places_in (chains_seen (take l.number chains)) 0 (map stamp_seen s)) c.as_slice.ensures in record {
      counted = ap (λ n. n + 1) l.invariant.counted;
      readable = (subst (λ r. AllByRecursion IsReadable (chains_seen r)) (drop_here chains l.chain-index x c.loop-chain-test.true c.chain-item.is) l.invariant.readable).1;
      added = sym (next_places chains l.number l.chain-index x _ _ l.invariant.counted c.loop-chain-test.true c.chain-item.is added) ∙ l.invariant.added;
    }

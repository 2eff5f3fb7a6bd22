use Rattle.std.proofs.Common.{ℕ, List, ◌++◌, take, ap, ◌∙◌, append_assoc}
use Rattle.std.specs.List.{flat_map}
use Rattle.evidence_syntax.specs.Stamps.{chain_seen, chains_seen}
use Rattle.evidence_syntax.specs.Text.{chain_text}
use Rattle.evidence_syntax.proofs.Parts.{one_more_seen, one_seen_shorter}
use Rattle.evidence_verify.proofs.values.add_all.Goals as goal

pub add-requires : goal.add-requires
add-requires c = one_seen_shorter chain_seen chain_text c.args.chains.now c.loop-chain.chain-index c.chain-item.result _ c.loop-chain-test.true c.chain-item.is c.requires

pub loop-chain-preserved : goal.loop-chain-preserved
loop-chain-preserved c =
    let l = c.loop-chain in
    let chains = c.args.chains.now in
    let text = chain_text (chain_seen c.chain-item.result) in
    c.in_ok-add.ensures.added ∙ ap (λ (t : List ℕ). t ++ text) l.invariant
    ∙ append_assoc c.args.older.now (flat_map chain_text (chains_seen (take l.chain-index chains))) text
    ∙ ap (λ (t : List ℕ). c.args.older.now ++ t) (one_more_seen chain_seen chain_text chains l.chain-index c.chain-item.result c.loop-chain-test.true c.chain-item.is)

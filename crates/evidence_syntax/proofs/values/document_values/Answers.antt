use Rattle.evidence_syntax.specs.Stamps.{chain_seen}
use Rattle.evidence_syntax.specs.Text.{chain_text}
use Rattle.evidence_syntax.proofs.Parts.{one_seen_shorter}
use Rattle.evidence_syntax.proofs.values.document_values.Goals as goal

pub add-requires : goal.add-requires
add-requires c = one_seen_shorter chain_seen chain_text c.args.older.now c.loop-chain.chain-index c.chain-item.result _ c.loop-chain-test.true c.chain-item.is c.requires

use Rattle.std.proofs.Common.{length, take, Some}
use Rattle.std.specs.List.{flat_map}
use Rattle.evidence_syntax.specs.Stamps.{chains_seen}
use Rattle.evidence_syntax.specs.Text.{chain_text}
use Rattle.evidence_syntax.specs.Inside.{IsSizeOf}
use Rattle.evidence_syntax.proofs.sizes.sequence_size.Given as goal

abbrev pub invariant-loop-chain : goal.invariant-loop-chain
invariant-loop-chain l = IsSizeOf (length (flat_map chain_text (chains_seen (take l.chain-index l.chains)))) (Some l.size)

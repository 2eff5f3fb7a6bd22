use Rattle.std.proofs.Common.{◌≡◌, ◌++◌, take}
use Rattle.std.specs.List.{flat_map}
use Rattle.evidence_syntax.specs.Stamps.{chains_seen}
use Rattle.evidence_syntax.specs.Text.{chain_text}
use Rattle.evidence_verify.proofs.values.add_all.Given as goal

abbrev pub invariant-loop-chain : goal.invariant-loop-chain
invariant-loop-chain l = l.older ≡ l.initial.older ++ flat_map chain_text (chains_seen (take l.chain-index l.chains))

use Rattle.std.proofs.Common.{length}
use Rattle.der_values.specs.Shape.{tagged}
use Rattle.der_values.proofs.Loop.{ReadSoFar}
use Rattle.evidence_syntax.specs.Checks.{der}
use Rattle.evidence_syntax.specs.Stamps.{chain_of, chains_seen}
use Rattle.evidence_syntax.specs.Inside.{chain_at, each_chain}
use Rattle.evidence_syntax.proofs.stamps.all_chains.Given as goal

abbrev pub invariant-loop-reader : goal.invariant-loop-reader
invariant-loop-reader l = ReadSoFar der (tagged 48) chain_at (each_chain l.fn.so_far.stamps l.fn.reader) chain_of (chains_seen l.chains.items) l.so_far.stamps l.reader

abbrev pub decreases-loop-reader : goal.decreases-loop-reader
decreases-loop-reader l = length l.reader.left

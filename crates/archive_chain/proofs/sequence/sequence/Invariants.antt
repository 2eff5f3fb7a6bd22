use Rattle.std.proofs.Common.{length}
use Rattle.evidence_syntax.specs.Stamps.{chains_seen}
use Rattle.archive_chain.proofs.Walking.{left}
use Rattle.archive_chain.proofs.Reading.{Reached}
use Rattle.archive_chain.proofs.sequence.sequence.Given as goal

abbrev pub invariant-loop-at : goal.invariant-loop-at
invariant-loop-at l = Reached l.stamps l.rows l.id l.start l.group l.at (chains_seen l.chains.items)

abbrev pub decreases-loop-at : goal.decreases-loop-at
decreases-loop-at l = left (length l.rows) l.at

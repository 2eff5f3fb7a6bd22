use Rattle.entry_codec.proofs.Placing.{DocumentsSoFar}
use Rattle.entry_codec.proofs.deposit.documents.Given as goal

abbrev pub invariant-loop-further : goal.invariant-loop-further
invariant-loop-further l = DocumentsSoFar l.fn.count l.fn.room l.fn.payload l.fn.places.items l.places.items l.further l.left l.payload

abbrev pub decreases-loop-further : goal.decreases-loop-further
decreases-loop-further l = l.further

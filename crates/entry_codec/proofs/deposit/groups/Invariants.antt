use Rattle.entry_codec.proofs.Placing.{GroupsSoFar}
use Rattle.entry_codec.proofs.deposit.groups.Given as goal

abbrev pub invariant-loop-further : goal.invariant-loop-further
invariant-loop-further l = GroupsSoFar l.fn.count l.fn.payload l.counts.items l.places.items l.further l.room l.payload

abbrev pub decreases-loop-further : goal.decreases-loop-further
decreases-loop-further l = l.further

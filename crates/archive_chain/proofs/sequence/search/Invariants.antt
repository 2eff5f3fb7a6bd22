use Rattle.std.proofs.Common.{◌-◌, ◌<◌, ◌≤◌, length}
use Rattle.archive_chain.specs.Kept.{place_of}
use Rattle.archive_chain.proofs.sequence.search.Given as goal

abbrev pub invariant-loop-high : goal.invariant-loop-high
invariant-loop-high l = (l.low ≤ place_of l.ids l.id) × (place_of l.ids l.id < l.high) × (l.high ≤ length l.ids)

abbrev pub decreases-loop-high : goal.decreases-loop-high
decreases-loop-high l = l.high - l.low

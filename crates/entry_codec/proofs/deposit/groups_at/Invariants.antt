use Rattle.std.proofs.Common.{◌≡◌, ◌++◌, drop}
use Rattle.entry_codec.specs.Inside.{groups_at, FitIn}
use Rattle.entry_codec.proofs.deposit.groups_at.Given as goal

abbrev pub invariant-loop-count : goal.invariant-loop-count
invariant-loop-count l =
    (l.groups.items ++ groups_at l.payload (drop l.count-index l.count-items) l.places ≡ groups_at l.fn.payload l.fn.deposit.counts l.fn.deposit.places)
    × FitIn l.payload (drop l.count-index l.count-items) l.places

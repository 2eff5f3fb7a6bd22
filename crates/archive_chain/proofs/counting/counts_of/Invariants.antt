use Rattle.std.proofs.Common.{◌≡◌, ◌+◌, ◌*◌, ◌≤◌, drop}
use Rattle.std.specs.Prelude.{length, sum_by}
use Rattle.object_groups.specs.Groups.{bytes_in}
use Rattle.archive_chain.proofs.counting.counts_of.Given as goal

abbrev pub invariant-loop-group : goal.invariant-loop-group
invariant-loop-group l =
    (l.documents + sum_by length (drop l.group-index l.groups) ≡ sum_by length l.groups)
    × (l.bytes + sum_by bytes_in (drop l.group-index l.groups) ≡ sum_by bytes_in l.groups)
    × (l.documents ≤ 64 * l.group-index) × (l.bytes ≤ 4194304 * l.group-index)

use Rattle.std.proofs.Common.{◌≡◌, ◌+◌, ◌≤◌, ◌++◌}
use Rattle.std.specs.Prelude.{vec_len, vec_capacity}
use Rattle.archive_store.specs.InsideRows.{homes_of}
use Rattle.archive_store.proofs.catalogue.push_homes.Given as goal

abbrev pub invariant-loop-number : goal.invariant-loop-number
invariant-loop-number l = record {
  items : l.homes.items ≡ l.fn.homes.items ++ homes_of l.entry l.number;
  room : vec_len l.homes + l.groups ≤ vec_capacity l.homes + l.number;
}

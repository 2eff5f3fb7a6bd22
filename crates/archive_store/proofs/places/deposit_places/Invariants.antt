use Rattle.std.proofs.Common.{◌≡◌, ◌+◌, map, length, take}
use Rattle.std.specs.Prelude.{sum_by}
use Rattle.std.specs.List.{flat_map}
use Rattle.object_groups.specs.Groups.{bytes_in}
use Rattle.entry_codec.specs.Spelling.{group_spelling}
use Rattle.entry_codec.specs.Places.{group_places}
use Rattle.archive_store.proofs.places.deposit_places.Given as goal

abbrev pub invariant-loop-group : goal.invariant-loop-group
invariant-loop-group l = record {
  counts : l.counts.items ≡ map length (take l.group-index l.groups);
  places : l.places.items ≡ group_places 5 (take l.group-index l.groups);
  bytes : l.bytes ≡ sum_by bytes_in (take l.group-index l.groups);
  place : l.place ≡ 5 + length (flat_map group_spelling (take l.group-index l.groups));
}

use Rattle.std.proofs.Common.{◌≡◌, ◌++◌, drop}
use Rattle.std.specs.List.{flat_map}
use Rattle.entry_codec.specs.Spelling.{group_spelling}
use Rattle.entry_codec.proofs.writing.put_each_group.Given as goal

abbrev pub invariant-loop-group : goal.invariant-loop-group
invariant-loop-group l = (l.out.items ++ flat_map group_spelling (drop l.group-index l.groups) ≡ l.fn.out.items ++ flat_map group_spelling l.fn.groups)

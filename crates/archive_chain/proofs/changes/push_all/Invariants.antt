use Rattle.std.proofs.Common.{◌≡◌, ◌+◌, ◌≤◌, ◌++◌, replicate, vec_len, vec_capacity}
use Rattle.archive_chain.proofs.changes.push_all.Given as goal

abbrev pub invariant-loop : goal.invariant-loop
invariant-loop l = (l.firsts.items ≡ l.initial.firsts.items ++ replicate l.counter l.row) × (vec_len l.firsts ≡ vec_len l.initial.firsts + l.counter) × (vec_capacity l.initial.firsts ≤ vec_capacity l.firsts)

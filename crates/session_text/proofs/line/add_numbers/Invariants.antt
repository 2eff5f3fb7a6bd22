use Rattle.std.proofs.Common.{◌≡◌, ◌+◌, ◌*◌, ◌≤◌, ◌++◌, take, vec_len}
use Rattle.std.specs.Prelude.{vec_capacity}
use Rattle.session_text.specs.Lines.{spaced}
use Rattle.session_text.proofs.line.add_numbers.Given as goal

-- the numbers so far, each of at most 20 digits with a space
abbrev pub invariant-loop-number : goal.invariant-loop-number
invariant-loop-number l = record {
  text : l.out.items ≡ l.initial.out.items ++ spaced (take l.number-index l.numbers);
  short : vec_len l.out ≤ vec_len l.initial.out + 21 * l.number-index;
  room : vec_capacity l.initial.out ≤ vec_capacity l.out;
}

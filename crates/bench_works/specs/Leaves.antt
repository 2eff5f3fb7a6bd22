-- The leaves of a hash tree.
use Rattle.std.specs.Prelude.{ℕ, List, ◌++◌, replicate}
use Rattle.std.specs.Int.{w32, to_le_bytes}

-- the four bytes of a number, the least significant first, and 28 zeros
abbrev pub leaf_of : ℕ → List ℕ
leaf_of number = to_le_bytes w32 number ++ replicate 28 0

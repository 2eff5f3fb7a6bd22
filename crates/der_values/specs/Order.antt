-- The order of the encodings in a SET OF (X.690, 11.6).
use Rattle.std.specs.Prelude.{ℕ, ◌-◌, List, ◌++◌, length, replicate}
use Rattle.std.specs.Ordering.{nat_cmp}
use Rattle.std.specs.Cmp.Lexicographic.{slice_cmp}
use Rattle.std.specs.declared.cmp.Ordering.{Ordering}

-- with zero bytes at its end, up to n bytes
abbrev pub padded : ℕ → List ℕ → List ℕ
padded n bytes = bytes ++ replicate (n - length bytes) 0

-- as byte strings, the shorter one padded at its end
unfoldable pub set_order_of : List ℕ → List ℕ → Ordering
set_order_of a b = slice_cmp nat_cmp (padded (length b) a) (padded (length a) b)

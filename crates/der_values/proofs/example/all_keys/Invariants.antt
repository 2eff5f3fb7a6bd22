use Rattle.std.proofs.Common.{◌≡◌, ◌+◌, ◌≤◌, ℕ, List, length}
use Rattle.der_values.specs.Shape.{tagged}
use Rattle.der_values.specs.Example.{der}
use Rattle.der_values.specs.Inside.{key_at, each_key}
use Rattle.der_values.proofs.Loop.{ReadSoFar}
use Rattle.der_values.proofs.example.all_keys.Given as goal

abbrev pub invariant-loop-reader : goal.invariant-loop-reader
invariant-loop-reader l = (keys : List (List ℕ)) × ReadSoFar der (tagged 4) key_at (each_key l.fn.reader) (λ key. key) keys l.before l.reader × (length keys ≡ l.count) × (l.count + length l.reader.left ≤ length l.fn.reader.left)

abbrev pub decreases-loop-reader : goal.decreases-loop-reader
decreases-loop-reader l = length l.reader.left

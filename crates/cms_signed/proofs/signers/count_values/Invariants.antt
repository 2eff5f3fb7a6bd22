use Rattle.std.proofs.Common.{◌≡◌, ◌+◌, ◌≤◌, length, ℕ, List}
use Rattle.der_values.specs.Shape.{any_tag}
use Rattle.der_values.proofs.Loop.{ReadSoFar}
use Rattle.cms_signed.specs.Inside.{value_in, each_value}
use Rattle.cms_signed.proofs.signers.count_values.Given as goal

abbrev pub invariant-loop-reader : goal.invariant-loop-reader
invariant-loop-reader l = (vs : List (ℕ × List ℕ)) × ReadSoFar (λ e. e) any_tag value_in (each_value l.fn.reader) (λ v. v) vs tt l.reader × (length vs ≡ l.count) × (l.count + length l.reader.left ≤ length l.fn.reader.left)

abbrev pub decreases-loop-reader : goal.decreases-loop-reader
decreases-loop-reader l = length l.reader.left

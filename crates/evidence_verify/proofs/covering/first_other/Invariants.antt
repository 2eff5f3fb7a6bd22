use Rattle.std.proofs.Common.{◌≡◌, not, drop}
use Rattle.std.specs.List.{position_from}
use Rattle.std.specs.Str.{bytes_eq}
use Rattle.evidence_verify.proofs.covering.first_other.Given as goal

abbrev pub invariant-loop-value : goal.invariant-loop-value
invariant-loop-value l =
    (l.number ≡ l.value-index)
    × (position_from (λ v. not (bytes_eq l.imprint v)) l.number (drop l.value-index l.values) ≡ position_from (λ v. not (bytes_eq l.fn.imprint v)) 0 l.fn.values)

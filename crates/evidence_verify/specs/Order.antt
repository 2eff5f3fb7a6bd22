-- The order of times (RFC 4998, 5.3): no time-stamp is before the one before it, in its chain or the chain before.
use Rattle.std.specs.Prelude.{List, [], ◌∷◌, Option, Some, None, if◌then◌else◌}
use Rattle.civil_moment.specs.declared.moment.Moment.{Moment}
use Rattle.civil_moment.specs.Moment.{is_before}
use Rattle.evidence_verify.specs.declared.verdict.Verdict.{Verdict}
use Rattle.evidence_verify.specs.declared.verdict.Verdict.TheVariants.{OutOfOrder, Early}
use Rattle.evidence_verify.specs.Stamps.{Checked}

-- the first time-stamp that is before the one before it, where the first of them follows this moment
abbrev pub order_after : Moment → List Checked → Option Verdict
order_after before [] = None
order_after before (c ∷ rest) =
    if is_before c.says.time before then Some (OutOfOrder c.place.chain c.place.stamp)
    else order_after c.says.time rest

-- the first time-stamp that is before the one before it
abbrev pub order_fault : List Checked → Option Verdict
order_fault [] = None
order_fault (c ∷ rest) = order_after c.says.time rest

-- the moment is before the last time
abbrev pub early_fault : Moment → List Checked → Option Verdict
early_fault moment [] = None
early_fault moment (c ∷ []) = if is_before moment c.says.time then Some (Early moment c.says.time) else None
early_fault moment (c ∷ d ∷ rest) = early_fault moment (d ∷ rest)

-- The first lapse of the time-stamps of a record (RFC 4998, 5.3).
use Rattle.std.specs.Prelude.{List, map, Option}
use Rattle.civil_moment.specs.declared.moment.Moment.{Moment}
use Rattle.algorithm_policy.specs.Content.{Content}
use Rattle.evidence_verify.specs.declared.verdict.Lapse.{Lapse}
use Rattle.evidence_verify.specs.declared.mark.Mark.{Mark as HeldMark}
use Rattle.evidence_verify.specs.Stamps.{Checked}
use Rattle.evidence_verify.specs.Marks.{Mark, first_lapse}

-- the mark of a time-stamp in its place, by what its token says
abbrev pub mark_of : Checked → Mark
mark_of c = record { chain = c.place.chain; stamp = c.place.stamp; alg = c.says.alg; time = c.says.time; sid = c.says.sid }

-- the marks of time-stamps
abbrev pub marks_of : List Checked → List Mark
marks_of stamps = map mark_of stamps

-- the first lapse of these time-stamps
abbrev pub lapse_of : Content → Moment → List Checked → Option Lapse
lapse_of policy moment stamps = first_lapse policy moment (marks_of stamps)

-- what is seen of a mark in memory
abbrev pub mark_seen : HeldMark → Mark
mark_seen m = record { chain = m.chain; stamp = m.stamp; alg = m.alg; time = m.time; sid = m.sid.now }

-- Why the record of a group isn't given.
use Rattle.std.specs.Prelude.{◌≡◌, ◌⊎◌, ℕ, nat_le, List, [], ◌∷◌, length, Option, Some, None, option_map, if◌then◌else◌}
use Rattle.std.specs.Option.{option_or}
use Rattle.civil_moment.specs.declared.moment.Moment.{Moment}
use Rattle.civil_moment.specs.Moment.{is_before}
use Rattle.algorithm_policy.specs.Content.{Content}
use Rattle.evidence_verify.specs.Marks.{Mark, first_lapse}
use Rattle.evidence_verify.specs.Stamps.{places_of, Checked, AreSound}
use Rattle.evidence_verify.specs.Lapse.{marks_of}
use Rattle.entry_codec.specs.declared.entry.Entry.{Entry}
use Rattle.archive_chain.specs.Kept.{Kept, groups_of}
use Rattle.archive_chain.specs.Held.{Held}
use Rattle.archive_issue.specs.declared.fault.IssueFault.{IssueFault}
use Rattle.archive_issue.specs.declared.fault.IssueFault.TheVariants.{Unknown, Pending, Early, Lapsed, Memory}
use Rattle.archive_issue.specs.Record.{record_after}

-- the time of the last of these time-stamps
abbrev pub last_time : List Mark → Option Moment
last_time [] = None
last_time (m ∷ []) = Some m.time
last_time (m ∷ n ∷ later) = last_time (n ∷ later)

-- the moment is before this time
abbrev pub early_by : Moment → Option Moment → Option IssueFault
early_by moment None = None
early_by moment (Some last) = if is_before moment last then Some (Early moment last) else None

-- what stands against the record at this moment, by the marks of its time-stamps: that it is before the last, or the
-- first lapse
abbrev pub time_reason : Content → Moment → List Mark → Option IssueFault
time_reason policy moment marks = option_or (early_by moment (last_time marks)) (option_map Lapsed (first_lapse policy moment marks))

-- the first reason not to give the record of the group of this number
abbrev pub reason_of : Kept → Content → ℕ → Moment → List Mark → Option IssueFault
reason_of kept policy id moment marks =
    if nat_le (groups_of kept) id then Some (Unknown id (groups_of kept))
    else if nat_le (length kept.sealed) id then Some (Pending id)
    else time_reason policy moment marks

-- The tokens of the group's record after this history are sound, and by what they say this is the first reason, if any,
-- not to give the record.
pub record HasReason (held : Held) (history : List Entry) (id : ℕ) (moment : Moment) (reason : Option IssueFault) : Type 0 where
  pub stamps : List Checked
  pub sound : AreSound held.policy (places_of (record_after history id).chains) stamps
  pub is : reason_of held.kept held.policy id moment (marks_of stamps) ≡ reason

-- The fault is want of memory, or that reason.
abbrev pub IsRefused : Held → List Entry → ℕ → Moment → IssueFault → Type 0
IsRefused held history id moment fault = (fault ≡ Memory) ⊎ HasReason held history id moment (Some fault)

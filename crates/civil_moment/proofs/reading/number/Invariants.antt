use Rattle.std.proofs.Common.{◌≡◌, ◌<◌, ◌^◌, take}
use Rattle.civil_moment.specs.Moment.{number}
use Rattle.civil_moment.specs.Fault.{values}
use Rattle.civil_moment.proofs.reading.number.Given as goal

abbrev pub invariant-loop-byte : goal.invariant-loop-byte
invariant-loop-byte l = (l.number ≡ number (values (take l.byte-index l.text))) × (l.number < 10 ^ l.byte-index)

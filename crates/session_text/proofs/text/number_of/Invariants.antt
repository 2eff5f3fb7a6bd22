use Rattle.std.proofs.Common.{◌≡◌, ◌<◌, ◌^◌, take}
use Rattle.session_text.specs.Words.{number_of}
use Rattle.session_text.proofs.text.number_of.Given as goal

abbrev pub invariant-loop-digit : goal.invariant-loop-digit
invariant-loop-digit l = (l.number ≡ number_of (take l.digit-index l.word)) × (l.number < 10 ^ l.digit-index)

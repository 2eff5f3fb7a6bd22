-- How a run ends.
use Rattle.std.specs.Prelude.{ℕ}
use Rattle.evidence_tool.specs.declared.status.Status.{Status}
use Rattle.evidence_tool.specs.declared.status.Status.TheVariants.{Done, BadWords, ReadFault, WriteFault, DiskFault, NoJournal, Damaged, TooLong, NoMemory, BadInput, Lapsed, NotValid}

-- the number of each status
abbrev pub code_of : Status → ℕ
code_of Done = 0
code_of BadWords = 2
code_of ReadFault = 3
code_of WriteFault = 4
code_of DiskFault = 5
code_of NoJournal = 6
code_of Damaged = 7
code_of TooLong = 8
code_of NoMemory = 9
code_of BadInput = 10
code_of Lapsed = 20
code_of NotValid = 21

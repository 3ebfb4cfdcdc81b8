-- How the program ends.
use Rattle.std.specs.Prelude.{ℕ}
use Rattle.tl_run.specs.declared.status.Status.{Status}
use Rattle.tl_run.specs.declared.status.Status.TheVariants.{Done, BadWords, BadScript, ReadFault, WriteFault, NoMemory, TooLong}

-- the exit status
abbrev pub code_of : Status → ℕ
code_of Done = 0
code_of BadWords = 2
code_of BadScript = 3
code_of ReadFault = 4
code_of WriteFault = 5
code_of NoMemory = 8
code_of TooLong = 9

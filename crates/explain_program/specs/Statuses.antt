-- The numbers with which the program ends.
use Rattle.std.specs.Prelude.{ℕ}
use Rattle.explain_program.specs.declared.status.Status.{Status}
use Rattle.explain_program.specs.declared.status.Status.TheVariants as status

-- the number of a status (own)
abbrev pub code_of : Status → ℕ
code_of status.Ok = 0
code_of status.Usage = 2
code_of status.Unexplained = 3
code_of status.ReadFault = 4
code_of status.WriteFault = 5
code_of status.OutOfMemory = 6
code_of status.TooLong = 7

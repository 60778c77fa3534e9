-- Words of private functions alone: the fault that a command's words are too few or too many, where
-- reading it told that.
use Rattle.std.specs.Prelude.{Result, Ok, Err}
use Rattle.cds_stamps.specs.declared.alloc_or.AllocOr.{AllocOr}
use Rattle.cds_stamps.specs.declared.alloc_or.AllocOr.TheVariants.{Fault}
use Rattle.cell_script.specs.declared.command.Command.{Command}
use Rattle.cell_script.specs.declared.fault.ParseFault.{ParseFault}
use Rattle.cell_script.specs.declared.fault.ParseFault.TheVariants.{WrongCount}

-- that fault, or none
abbrev pub miscount : Result Command (AllocOr ParseFault) → Result (Unit {0}) (AllocOr ParseFault)
miscount (Err (Fault (WrongCount words))) = Err (Fault (WrongCount words))
miscount read = Ok tt

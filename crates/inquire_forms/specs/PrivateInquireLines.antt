-- Words of private contracts: how a line of the form `inquire` is read.
use Rattle.std.specs.Prelude.{◌≡◌, None, Option, Result, Ok, Err}
use Rattle.cds_stamps.specs.declared.alloc_or.AllocOr.{AllocOr}
use Rattle.cds_stamps.specs.declared.alloc_or.AllocOr.TheVariants.{Fault, OutOfMemory}
use Rattle.cell_script.specs.declared.fault.ParseFault.{ParseFault}
use Rattle.inquire_forms.specs.declared.inquire_line.InquireLine.{InquireLine}

-- a reader answers what the words say, or their fault; or out of memory, but not where a fault
-- shows early
abbrev pub Says : Result InquireLine (AllocOr ParseFault) → (said : Result InquireLine ParseFault) → (early : Option ParseFault) → Type 0
Says (Ok line) said early = said ≡ Ok line
Says (Err (Fault fault)) said early = said ≡ Err fault
Says (Err OutOfMemory) said early = early ≡ None

use Rattle.cell_names.proofs.PointerLaws.{pointer_fault-none}
use Rattle.cell_names.proofs.laws.child_pointers_have_no_fault.Goals as goal

pub returns : goal.returns
returns c = pointer_fault-none

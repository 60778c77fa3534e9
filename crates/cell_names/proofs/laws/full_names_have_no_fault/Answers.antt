use Rattle.cell_names.proofs.FullNameLaws.{name_fault-none}
use Rattle.cell_names.proofs.laws.full_names_have_no_fault.Goals as goal

pub returns : goal.returns
returns c = name_fault-none

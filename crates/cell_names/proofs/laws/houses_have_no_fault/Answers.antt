use Rattle.cell_names.proofs.HouseLaws.{list_fault-none}
use Rattle.cell_names.proofs.laws.houses_have_no_fault.Goals as goal

pub returns : goal.returns
returns c = list_fault-none

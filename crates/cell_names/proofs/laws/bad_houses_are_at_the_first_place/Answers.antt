use Rattle.cell_names.proofs.HouseLaws.{list_fault-first}
use Rattle.cell_names.proofs.laws.bad_houses_are_at_the_first_place.Goals as goal

pub returns : goal.returns
returns c = list_fault-first

use Rattle.cell_names.proofs.HouseLaws.{is_houses-Decides}
use Rattle.cell_names.proofs.laws.same_houses_are_one.Goals as goal

pub returns : goal.returns
returns c = is_houses-Decides

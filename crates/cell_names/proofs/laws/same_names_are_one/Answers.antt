use Rattle.cell_names.proofs.FullNameLaws.{is_name-Decides}
use Rattle.cell_names.proofs.laws.same_names_are_one.Goals as goal

pub returns : goal.returns
returns c = is_name-Decides

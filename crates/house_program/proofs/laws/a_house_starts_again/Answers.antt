use Rattle.house_program.proofs.LeftHouses.{left_by_house}
use Rattle.house_program.proofs.RestartLemmas.{taken_up}
use Rattle.house_program.proofs.laws.a_house_starts_again.Goals as goal

pub returns : goal.returns
returns g c files left = taken_up files (left_by_house g.F.Folder.kept g.F.Folder.left_ever files left)

use Rattle.house_program.specs.HouseCells.{segments_of}
use Rattle.house_program.proofs.LeftHouses.{are_folders, left_by_house}
use Rattle.house_program.proofs.laws.houses_that_run_are_cells.Goals as goal

pub returns : goal.returns
returns g c = record {
  left = left_by_house g.F.Folder.kept g.F.Folder.left_ever;
  cells = λ folders are. c.running_houses_are_cells.ensures (segments_of folders are) (are_folders folders are);
}

use Rattle.std.proofs.Common.{◌≡◌, drop}
use Rattle.house_directory.specs.HouseMessages.{numbers_of}
use Rattle.cds_stamps.specs.Firsts.{first_some}
use Rattle.cds_cell.specs.Asking.{answer_of_house}
use Rattle.cds_cell.specs.Telling.{told_views}
use Rattle.cds_cell.proofs.reader.first_of.Given as goal

abbrev pub invariant-loop-house : goal.invariant-loop-house
invariant-loop-house l =
    first_some (answer_of_house (told_views l.cell) l.high l.dir.0) (numbers_of l.houses)
    ≡ first_some (answer_of_house (told_views l.cell) l.high l.dir.0) (numbers_of (drop l.house-index l.houses))

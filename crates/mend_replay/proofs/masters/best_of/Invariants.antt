use Rattle.std.proofs.Common.{◌≡◌, drop}
use Rattle.std.specs.Prelude.{None}
use Rattle.std.specs.Option.{option_map}
use Rattle.cds_stamps.specs.Members.{members_of}
use Rattle.cell_model.specs.Cells as model
use Rattle.cds_cell.specs.ModelCells.{Stands}
use Rattle.house_directory.specs.HouseMessages.{numbers_of}
use Rattle.mend_model.specs.Leaving.{best_of}
use Rattle.mend_replay.specs.PrivateMasters.{as_candidate}
use Rattle.mend_replay.proofs.masters.best_of.Given as goal

abbrev pub invariant-loop-member : goal.invariant-loop-member
invariant-loop-member l =
    (g : model.Cell) → Stands l.cell g → best_of g l.dir.0 (numbers_of l.without) (option_map as_candidate l.best) (members_of (drop l.member-index l.members))
    ≡ best_of g l.dir.0 (numbers_of l.without) None (members_of l.members)

use Rattle.std.proofs.Common.{◌≡◌, drop}
use Rattle.cds_stamps.specs.Members.{members_of}
use Rattle.cell_model.specs.Cells as model
use Rattle.cds_cell.specs.ModelCells.{Stands}
use Rattle.mend_replay.specs.Readiness.{is_held_by}
use Rattle.mend_replay.proofs.readiness.is_held_by.Given as goal

abbrev pub invariant-loop-member : goal.invariant-loop-member
invariant-loop-member l =
    (g : model.Cell) → Stands l.cell g → is_held_by g l.dir.0 l.epoch.0 (members_of (drop l.member-index l.members))
    ≡ is_held_by g l.dir.0 l.epoch.0 (members_of l.members)

use Rattle.std.proofs.Common.{◌++◌, drop}
use Rattle.cds_stamps.specs.Members.{members_of}
use Rattle.cell_model.specs.Cells as model
use Rattle.cell_model.specs.Mending.{start_commands}
use Rattle.cds_cell.specs.ModelCells.{Stands}
use Rattle.mend_replay.specs.MendLines.{command_lines}
use Rattle.mend_replay.proofs.PutLines.{Left}
use Rattle.mend_replay.proofs.commands.push_starts.Given as goal

abbrev pub invariant-loop-member : goal.invariant-loop-member
invariant-loop-member l =
    (g : model.Cell) → Stands l.cell g → Left (l.fn.script.items ++ command_lines (start_commands g (members_of l.members))) l.script.items
    (start_commands g (members_of (drop l.member-index l.members)))

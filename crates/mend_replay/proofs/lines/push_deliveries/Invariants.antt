use Rattle.std.proofs.Common.{◌+◌, ◌-◌, ◌++◌}
use Rattle.cell_model.specs.Mending.{deliver_commands}
use Rattle.mend_replay.specs.MendLines.{command_lines}
use Rattle.mend_replay.proofs.PutLines.{Left}
use Rattle.mend_replay.proofs.lines.push_deliveries.Given as goal

abbrev pub invariant-loop-serial : goal.invariant-loop-serial
invariant-loop-serial l =
    Left (l.fn.script.items ++ command_lines (deliver_commands l.first l.count)) l.script.items (deliver_commands l.serial (l.first + l.count - l.serial))

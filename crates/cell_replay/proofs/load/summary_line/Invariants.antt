use Rattle.std.proofs.Common.{length}
use Rattle.cell_script.specs.Generated.{script}
use Rattle.script_replay.proofs.LoadTurns.{IsLoading}
use Rattle.cell_replay.proofs.load.summary_line.Given as goal

abbrev pub invariant-commands : goal.invariant-commands
invariant-commands l = IsLoading l.loader l.script (script l.rounds)

abbrev pub decreases-commands : goal.decreases-commands
decreases-commands l = length l.script

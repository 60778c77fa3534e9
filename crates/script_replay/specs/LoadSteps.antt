-- How a cell is loaded, a command more, and what is counted at the end.
use Rattle.std.specs.Prelude.{◌≡◌, ◌+◌, cond}
use Rattle.std.specs.Option.{option_map_or}
use Rattle.directory.specs.Shown.{live_count}
use Rattle.cell_model.specs.Cells as model
use Rattle.cell_model.specs.Steps.{outcome}
use Rattle.cell_script.specs.declared.command.Command.{Command}
use Rattle.cds_cell.specs.Scripted.{step_of}
use Rattle.cds_cell.specs.ModelCells.{Stands}
use Rattle.script_replay.specs.declared.counts.Counts.{Counts}
use Rattle.script_replay.specs.declared.loader.Loader.{Loader}
use Rattle.script_replay.specs.Loading.{completes, first_table, is_accepted, values_shown}

-- a command was stepped and counted: the cell stands for the model's after it
pub record Takes (old new : Loader) (g : model.Cell) (c : Command) : Type 0 where
  pub commands : new.commands ≡ old.commands + 1
  pub accepted : new.accepted ≡ old.accepted + cond (is_accepted (c, (outcome g (step_of c)).answer)) 1 0
  pub complete : new.complete ≡ old.complete + cond (completes (c, (outcome g (step_of c)).answer)) 1 0
  pub stands : Stands new.replayer.cell (outcome g (step_of c)).cell

-- the counts, and what shows at the first house of the model's cell
pub record Tells (counts : Counts) (loader : Loader) (g : model.Cell) : Type 0 where
  pub commands : counts.commands ≡ loader.commands
  pub accepted : counts.accepted ≡ loader.accepted
  pub complete : counts.complete ≡ loader.complete
  pub live : counts.live ≡ option_map_or live_count (first_table g) 0
  pub values : counts.values ≡ option_map_or values_shown (first_table g) 0

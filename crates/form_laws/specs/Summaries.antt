-- What the summary of a script counts.
use Rattle.std.specs.Prelude.{◌≡◌, List, map, count_by}
use Rattle.cell_script.specs.declared.command.Command.{Command}
use Rattle.cds_cell.specs.Scripted.{step_of}
use Rattle.script_replay.specs.Loading.{is_change, summary_of}
use Rattle.form_laws.specs.Unrefused.{is_skulk}

-- the summary of these commands counts each of their changes, each of their skulks, and the sixteen
-- entries
pub record CountsAll (cs : List Command) : Type 0 where
  pub accepted : (summary_of cs).accepted ≡ count_by is_change cs
  pub complete : (summary_of cs).complete ≡ count_by is_skulk (map step_of cs)
  pub live : (summary_of cs).live ≡ 16

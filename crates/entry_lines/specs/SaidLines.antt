-- Lines of a script, and the commands that they say.
use Rattle.std.specs.Prelude.{◌≡◌, ℕ, ◌≤◌, List, Ok, Some}
use Rattle.cds_base.specs.LineFaults.{IsLine}
use Rattle.cds_base.specs.declared.scan.TheConstants.{MOST_LINES}
use Rattle.cell_script.specs.CommandRows.{said_in}
use Rattle.cell_script.specs.Words.{words_of}
use Rattle.cell_script.specs.declared.command.Command.{Command}
use Rattle.cell_script.specs.declared.command.ScriptLine.TheVariants as line

-- octets are a line of a script, whatever number a line can have it has, and say this command
pub record SaysCommand (octets : List ℕ) (c : Command) : Type 0 where
  pub is_line : (number : ℕ) → number ≤ MOST_LINES → IsLine number octets
  pub says : said_in (words_of octets) ≡ Ok (Some (line.Cell c))

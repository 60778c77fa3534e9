-- What the lines of commands say when they are read.
use Rattle.std.specs.Prelude.{◌≡◌, ℕ, ◌<◌, List, filter, length, Some, Ok}
use Rattle.cds_stamps.specs.Members.{most_members}
use Rattle.cell_model.specs.Commands as model
use Rattle.cell_model.specs.Sets.{In, has}
use Rattle.cell_script.specs.declared.command.Command.{Command}
use Rattle.cell_script.specs.declared.command.ScriptLine.TheVariants as line
use Rattle.cell_script.specs.CommandRows.{said_in}
use Rattle.cell_script.specs.Words.{words_of}
use Rattle.cds_cell.specs.Scripted.{step_of}
use Rattle.command_lines.specs.SayableCommands.{IsDirectory, IsHouse, IsSerial}

-- one of the four commands that mend, with numbers that lines can have; of an epoch, the secondary
-- houses are some of the others, in their order
abbrev pub CanBeSaid : model.Command → Type 0
CanBeSaid (model.Start h) = IsHouse h
CanBeSaid (model.Epoch d m rs ss) = IsDirectory d × IsHouse m × ((x : ℕ) → In x rs → IsHouse x) × (ss ≡ filter (λ x. has x ss) rs) × (length rs < most_members)
CanBeSaid (model.Skulk h d) = IsHouse h × IsDirectory d
CanBeSaid (model.Deliver n) = IsSerial n
CanBeSaid _ = ⊥

-- the line says this command of the model
abbrev pub SaysCommand : List ℕ → model.Command → Type 0
SaysCommand text c = (said : Command) × (said_in (words_of text) ≡ Ok (Some (line.Cell said))) × (step_of said ≡ c)

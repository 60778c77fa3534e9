-- What `check` makes of its input.
use Rattle.std.specs.Prelude.{ℕ, ◌+◌, List, [], ◌∷◌, ◌++◌, codes, Some, None, Option, Ok, Err, Result}
use Rattle.std.specs.Fmt.{decimal}
use Rattle.cell_script.specs.declared.command.ScriptLine.{ScriptLine}
use Rattle.cell_script.specs.declared.fault.ParseFault.{ParseFault}
use Rattle.cell_script.specs.CommandRows.{said_in}
use Rattle.cell_script.specs.Words.{words_of}
use Rattle.script_answers.specs.Texts.{parse_fault_text}
use Rattle.reply_buffer.specs.FaultTexts.{line_fault_text}
use Rattle.reply_buffer.specs.Responses.{ResponseOf, GoesOn, Stops}
use Rattle.line_forms.specs.Demand.{LineRule}

-- its state: how many lines and how many commands there were so far
pub record Counts : Type 0 where
  pub lines : ℕ
  pub commands : ℕ

-- so many lines and so many commands
abbrev pub counts : (lines commands : ℕ) → Counts
counts lines commands = record { lines = lines; commands = commands }

-- a line is counted, and a command too
abbrev pub line_check : ℕ → (commands : ℕ) → Result (Option ScriptLine) ParseFault → ResponseOf Counts
line_check number commands (Ok None) = GoesOn [] (counts number commands)
line_check number commands (Ok (Some l)) = GoesOn [] (counts number (commands + 1))
line_check number commands (Err fault) = Stops (parse_fault_text number fault)

-- the line that tells the counts
abbrev pub count_text : (lines commands : ℕ) → List ℕ
count_text lines commands = codes "ok " ++ (decimal lines ++ (32 ∷ (decimal commands ++ 10 ∷ [])))

-- it counts lines and commands, and says in the end how many there were
abbrev pub check_rule : LineRule Counts
check_rule =
    record {
      response = λ number s line. line_check number s.commands (said_in (words_of line));
      end_text = λ s. count_text s.lines s.commands;
      fault_text = line_fault_text;
    }

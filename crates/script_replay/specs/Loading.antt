-- What `load` writes: a summary of the script with so many rounds, replayed by the model.
use Rattle.std.specs.Prelude.{ℕ, Bool, true, false, not, ◌&&◌, if◌then◌else◌, List, [], ◌∷◌, ◌++◌, map, length, is_some, sum_by, count_by, codes}
use Rattle.std.specs.Prelude.{Option, Some, None}
use Rattle.std.specs.FinMap.{entries}
use Rattle.std.specs.Fmt.{decimal}
use Rattle.std.specs.List.{zip}
use Rattle.std.specs.Option.{option_map_or}
use Rattle.attr_sets.specs.AttributeCells.{cell_values}
use Rattle.directory.specs.Entries.{Entries}
use Rattle.directory.specs.Shown.{live_count, shown_entry}
use Rattle.directory.specs.declared.entry.EntryCell.{EntryCell}
use Rattle.cell_model.specs.Cells.{Cell, empty_cell}
use Rattle.cell_model.specs.Commands as model
use Rattle.cell_model.specs.Steps.{answers_from, replay}
use Rattle.script_answers.specs.declared.answer.Answer.{Answer}
use Rattle.script_answers.specs.declared.answer.Answer.TheVariants as answer
use Rattle.directory.specs.declared.update.Update.TheVariants as update
use Rattle.cell_script.specs.declared.command.Command.{Command}
use Rattle.cell_script.specs.declared.command.Command.TheVariants as command
use Rattle.cell_script.specs.Generated.{script}
use Rattle.cds_cell.specs.Scripted.{step_of}
use Rattle.script_replay.specs.Replies.{dump_told}

-- ---- commands and their answers

-- each of these commands with the answer of the model to it, from this cell on
abbrev pub answered_from : Cell → List Command → List (Command × model.Answer)
answered_from g cs = zip cs (answers_from g (map step_of cs))

-- `create`, `delete`, `add` and `remove` change an entry
abbrev pub is_change : Command → Bool
is_change (command.Update h d (update.Create n)) = true
is_change (command.Update h d (update.Delete n)) = true
is_change (command.Update h d (update.Add n a v)) = true
is_change (command.Update h d (update.Remove n a v)) = true
is_change _ = false

-- `deliver` alone delivers a message
abbrev pub is_delivery : Command → Bool
is_delivery (command.Deliver n) = true
is_delivery _ = false

-- any answer that is no refusal is `ok`
abbrev pub is_refusal : model.Answer → Bool
is_refusal (model.Refused r) = true
is_refusal _ = false

-- an answer that tells that a skulk is complete
abbrev pub is_completion : model.Answer → Bool
is_completion (model.Complete t ns) = true
is_completion _ = false

-- a change that is accepted, and a delivery that completes a skulk
abbrev pub is_accepted : Command × model.Answer → Bool
is_accepted (c, a) = is_change c && not (is_refusal a)

-- a delivery that is answered by the completion of a skulk
abbrev pub completes : Command × model.Answer → Bool
completes (c, a) = is_delivery c && is_completion a

-- ---- what shows

-- how many values an entry has that are present, and how many show in a table: those of its live
-- entries
abbrev pub value_count : EntryCell → ℕ
value_count e = sum_by (λ a. length (cell_values a.1)) (entries e.attrs)

-- how many values of an entry show: those that are present where it is live, and else none
abbrev pub shown_count : EntryCell → ℕ
shown_count e = if is_some (shown_entry e) then value_count e else 0

-- how many values show in a table, over all its entries
abbrev pub values_shown : Entries → ℕ
values_shown t = sum_by (λ e. shown_count e.1) (entries t)

-- the table that a dump tells, if it tells one
abbrev pub table_told : Answer → Option Entries
table_told (answer.Dump epoch up_to members t) = Some t
table_told _ = None

-- the table of house 1 and the root directory
abbrev pub first_table : Cell → Option Entries
first_table g = table_told (dump_told g 1 1)

-- ---- the summary

-- how many commands there are, changes that are accepted, and deliveries that complete a skulk; and
-- what shows at house 1 at the end: live entries, and values
pub record Summary : Type 0 where
  pub commands : ℕ
  pub accepted : ℕ
  pub complete : ℕ
  pub live : ℕ
  pub values : ℕ

-- the summary of commands that the model replays from a cell without houses on
abbrev pub summary_of : List Command → Summary
summary_of cs =
    record {
      commands = length cs;
      accepted = count_by is_accepted (answered_from empty_cell cs);
      complete = count_by completes (answered_from empty_cell cs);
      live = option_map_or live_count (first_table (replay (map step_of cs))) 0;
      values = option_map_or values_shown (first_table (replay (map step_of cs))) 0;
    }

-- the line of a summary
abbrev pub summary_text : (rounds : ℕ) → Summary → List ℕ
summary_text rounds s =
    codes "load " ++ (decimal rounds ++ (codes " commands " ++ (decimal s.commands ++ (codes " accepted " ++ (decimal s.accepted
    ++ (codes " complete " ++ (decimal s.complete ++ (codes " live " ++ (decimal s.live ++ (codes " values " ++ (decimal s.values ++ 10 ∷ [])))))))))))

-- what `load` writes for so many rounds
unfoldable pub load_text : ℕ → List ℕ
load_text rounds = summary_text rounds (summary_of (script rounds))

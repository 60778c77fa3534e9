-- What the model answers to a script, and what house 1 has after it.
use Rattle.std.specs.Prelude.{◌≡◌, ℕ, ◌<◌, Bool, true, false, List, map, IsSome, count_by}
use Rattle.directory.specs.Shown.{shown_of_name, live_count}
use Rattle.directory.specs.Purges.{purged_entries}
use Rattle.cell_model.specs.Cells.{Replica, Cell, IsHeld}
use Rattle.cell_model.specs.Commands as model
use Rattle.cell_model.specs.Commands.{Refusal, Answer, Posted, Complete, Refused}
use Rattle.cell_model.specs.Mending.{HasWorked}
use Rattle.cell_model.specs.Sets.{In}
use Rattle.cell_model.specs.Steps.{answers, replay}
use Rattle.cell_script.specs.declared.command.Command.{Command}
use Rattle.cell_script.specs.Generated.{entry_name}
use Rattle.cds_cell.specs.Scripted.{step_of}
use Rattle.script_replay.specs.Loading.{is_completion}

-- no answer to these commands, from the empty cell on, is a refusal
abbrev pub IsNeverRefused : List Command → Type 0
IsNeverRefused cs = (why : Refusal) → In (Refused why) (answers (map step_of cs)) → ⊥

-- the command was neither refused nor in vain: it made a root directory, or worked
abbrev pub IsInFull : Answer → Type 0
IsInFull (Posted ns) = Unit {0}
IsInFull a = HasWorked a

-- so it is with each of these commands
abbrev pub AllCommandsWork : List Command → Type 0
AllCommandsWork cs = (a : Answer) → In a (answers (map step_of cs)) → IsInFull a

-- the step begins a skulk
abbrev pub is_skulk : model.Command → Bool
is_skulk (model.Skulk h d) = true
is_skulk _ = false

-- as many skulks become complete as are begun
abbrev pub AllComplete : List Command → Type 0
AllComplete cs = count_by is_completion (answers (map step_of cs)) ≡ count_by is_skulk (map step_of cs)

-- house 1 holds the root directory; its history shows each of the sixteen entries, and no other
-- entry of its table lives
pub record IsLoaded (g : Cell) : Type 0 where
  pub replica : Replica
  pub held : IsHeld g 1 1 replica
  pub shows : (k : ℕ) → k < 16 → IsSome (shown_of_name replica.history (entry_name k))
  pub live : live_count (purged_entries replica.history replica.all_up_to) ≡ 16

-- so it is after these commands
abbrev pub Loads : List Command → Type 0
Loads cs = IsLoaded (replay (map step_of cs))

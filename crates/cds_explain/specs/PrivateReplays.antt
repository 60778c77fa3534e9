-- What a replay has done.
use Rattle.std.specs.Prelude.{◌≡◌, ℕ, ◌+◌, ◌≤◌, List, ◌∷◌, [], ◌++◌, length, Some, Result, Ok, Err}
use Rattle.cds_base.specs.declared.scan.TheConstants.{MOST_LINES}
use Rattle.cds_stamps.specs.declared.alloc_or.AllocOr.{AllocOr}
use Rattle.cds_stamps.specs.declared.alloc_or.AllocOr.TheVariants.{Fault, OutOfMemory}
use Rattle.cell_model.specs.Commands.{Command, Done}
use Rattle.cell_model.specs.Steps.{outcome, replay}
use Rattle.cell_runs.specs.Entries.{Entry}
use Rattle.cell_runs.specs.Views.{seen_at}
use Rattle.cds_cell.specs.ModelCells.{IsStep, Stands}
use Rattle.script_answers.specs.declared.answer.Answer.{Answer}
use Rattle.house_logs.specs.declared.log.LogEntry.{LogEntry}
use Rattle.cds_explain.specs.Explained.{Scripts}
use Rattle.cds_explain.specs.LoggedEntries.{IsLogged}
use Rattle.cds_explain.specs.declared.replay.Replay.{Replay}

-- this holds of the fault, if it is one
abbrev pub OfFault : {F : Type 0} → AllocOr F → (F → Type 0) → Type 0
OfFault (Fault f) P = P f
OfFault OutOfMemory P = Unit {0}

-- of a call that ended by a fault
abbrev pub IfFault : {T F : Type 0} → Result T (AllocOr F) → (F → Type 0) → Type 0
IfFault (Ok x) P = Unit {0}
IfFault (Err e) P = OfFault e P

-- its lines are a script of these commands, and its cell is that of the model after them
pub record HasDone (r : Replay) (cs : List Command) : Type 0 where
  pub script : Scripts r.text.items cs
  pub count : r.lines ≡ length script.lines
  pub stands : Stands r.replayer.cell (replay cs)

-- one command more was done, and was answered so; its line is still to come
pub record HasStepped (cs : List Command) (c : Command) (a : Answer) (old new : Replay) : Type 0
  where
    pub text : new.text ≡ old.text
    pub count : new.lines ≡ old.lines + 1
    pub few : new.lines ≤ MOST_LINES
    pub step : IsStep a new.replayer.cell (outcome (replay cs) c)

-- one command more, which is done
pub record DoesQuietly (cs : List Command) (c : Command) (r : Replay) : Type 0 where
  pub has_done : HasDone r (cs ++ c ∷ [])
  pub answer : (outcome (replay cs) c).answer ≡ Done

-- one command more, which is this entry of the journal of the house x
pub record DoesEntry (cs : List Command) (x : ℕ) (l : LogEntry) (r : Replay) : Type 0 where
  pub command : Command
  pub has_done : HasDone r (cs ++ command ∷ [])
  pub entry : Entry
  pub seen : seen_at (replay cs) command ≡ Some (x, entry)
  pub logged : IsLogged l entry

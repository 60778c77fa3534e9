-- Words of private contracts: what a house has of a directory, told whole.
use Rattle.std.specs.Prelude.{Option, Some, None}
use Rattle.script_answers.specs.declared.answer.Answer.{Answer}
use Rattle.script_answers.specs.declared.answer.Answer.TheVariants as answer
use Rattle.script_answers.specs.declared.answer.ScriptRefusal.TheVariants as why
use Rattle.house_directory.specs.declared.states.DirState.{DirState}
use Rattle.house_directory.specs.declared.states.DirState.TheVariants as state
use Rattle.house_directory.specs.declared.states.Held.{Held}

-- what is held
abbrev pub held_told : Held → Answer
held_told h = answer.Dump h.epoch h.replica.all_up_to h.members h.replica.table

-- and no replica where nothing is
abbrev pub state_told : Option DirState → Answer
state_told None = answer.Refused why.NoReplica
state_told (Some (state.Gone e)) = answer.Refused why.NoReplica
state_told (Some (state.Held h)) = held_told h

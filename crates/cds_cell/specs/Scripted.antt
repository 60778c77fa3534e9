-- The commands and answers of the script, as steps and answers of a cell of the model.
use Rattle.std.specs.Prelude.{[], Option, Some, None}
use Rattle.directory.specs.declared.update.UpdateRefusal.{UpdateRefusal}
use Rattle.directory.specs.declared.update.UpdateRefusal.TheVariants as update
use Rattle.directory.specs.Updates.{change_of}
use Rattle.cell_model.specs.Commands as model
use Rattle.cell_script.specs.declared.command.Command.{Command}
use Rattle.cell_script.specs.declared.command.Command.TheVariants as command
use Rattle.cell_script.specs.Listings.{houses_in, secondaries_in}
use Rattle.script_answers.specs.declared.answer.Answer.{Answer}
use Rattle.script_answers.specs.declared.answer.Answer.TheVariants as answer
use Rattle.script_answers.specs.declared.answer.ScriptRefusal.{ScriptRefusal}
use Rattle.script_answers.specs.declared.answer.ScriptRefusal.TheVariants as why
use Rattle.house_directory.specs.HouseMessages.{numbers_of}

-- the step of the cell that a command is
abbrev pub step_of : Command → model.Command
step_of (command.House h node) = model.House h.0 node
step_of (command.Clock h time) = model.Clock h.0 time
step_of (command.Root m ls) = model.Root m.0 (numbers_of (houses_in ls)) (numbers_of (secondaries_in ls))
step_of (command.Mkdir h d n m ls) = model.Mkdir h.0 d.0 n m.0 (numbers_of (houses_in ls)) (numbers_of (secondaries_in ls))
step_of (command.Repoint h d n m rs) = model.Repoint h.0 d.0 n m.0 (numbers_of rs)
step_of (command.Update h d u) = model.Accept h.0 d.0 (change_of u)
step_of (command.Epoch d m ls) = model.Epoch d.0 m.0 (numbers_of (houses_in ls)) (numbers_of (secondaries_in ls))
step_of (command.Skulk h d) = model.Skulk h.0 d.0
step_of (command.Deliver n) = model.Deliver n
step_of (command.Lose n) = model.Lose n
step_of (command.Crash h) = model.Crash h.0
step_of (command.Start h) = model.Start h.0

-- why the script says that an update is refused
abbrev pub update_refusal_of : UpdateRefusal → ScriptRefusal
update_refusal_of update.NoReplica = why.NoReplica
update_refusal_of update.NotMaster = why.NotMaster
update_refusal_of update.NoSuchEntry = why.NoSuchEntry
update_refusal_of update.EntryExists = why.EntryExists
update_refusal_of update.WrongKind = why.WrongKind
update_refusal_of update.StampsSpent = why.StampsSpent None []

-- why the script says that a command is refused
abbrev pub refusal_of : model.Refusal → ScriptRefusal
refusal_of model.HouseExists = why.HouseExists
refusal_of model.NoHouse = why.NoHouse
refusal_of model.NoDirectory = why.NoDirectory
refusal_of model.DirectoryExists = why.DirectoryExists
refusal_of model.BadMembers = why.BadMembers
refusal_of model.NotMember = why.NotMember
refusal_of model.Down = why.Down
refusal_of model.Up = why.Up
refusal_of model.NoMessage = why.NoMessage
refusal_of (model.Update r) = update_refusal_of r
refusal_of (model.NotJoined held since) = why.NotJoined (record { 0 = held }) (record { 0 = since })

-- the answer of the script to a command. Foreign has no text, and never comes: no message of a cell
-- is from a house that is no member
abbrev pub answer_of : model.Answer → Option Answer
answer_of model.Done = Some answer.Done
answer_of (model.Posted ns) = Some (answer.Posted ns)
answer_of (model.Made d s ns) = Some (answer.Made (record { 0 = d }) s ns)
answer_of (model.Stamped s ns) = Some (answer.Stamped s ns)
answer_of (model.NewEpoch e ns) = Some (answer.Epoch (record { 0 = e }) ns)
answer_of (model.Taken ns) = Some (answer.Taken ns)
answer_of (model.Late k e) = Some (answer.Late (record { 0 = k }) (record { 0 = e }))
answer_of (model.Early k e) = Some (answer.Early (record { 0 = k }) (record { 0 = e }))
answer_of (model.Stale t r) = Some (answer.Stale t r)
answer_of model.NoReplica = Some answer.NoReplica
answer_of model.Foreign = None
answer_of (model.Complete t ns) = Some (answer.Complete t ns)
answer_of (model.Refused r) = Some (answer.Refused (refusal_of r))

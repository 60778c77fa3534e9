-- Words of private contracts: what is said to a question.
use Rattle.std.specs.Prelude.{◌≡◌, Result, Ok, Err}
use Rattle.std.specs.declared.alloc.AllocError.{AllocError}
use Rattle.cds_stamps.specs.declared.alloc_or.AllocOr.{AllocOr}
use Rattle.cds_stamps.specs.declared.alloc_or.AllocOr.TheVariants.{Fault, OutOfMemory}
use Rattle.script_answers.specs.declared.answer.Answer.{Answer}
use Rattle.script_answers.specs.declared.answer.Answer.TheVariants as answer
use Rattle.script_answers.specs.declared.answer.ScriptRefusal.{ScriptRefusal}
use Rattle.cds_cell.specs.declared.updating.AcceptedAll.{AcceptedAll}
use Rattle.cds_cell.specs.Accepting.{Accepting}
use Rattle.ns_commands.specs.declared.updates.Updates.{Updates}
use Rattle.script_replay.specs.declared.said.Reply.{Reply}
use Rattle.script_replay.specs.declared.said.Reply.TheVariants as reply

-- this answer is the reply
abbrev pub IsAnswer : Result Answer AllocError → Reply → Type 0
IsAnswer answer (reply.Answer a) = answer ≡ Ok a
IsAnswer answer (reply.Updates u) = ⊥

-- these updates are asked for, or this is the reason against them
abbrev pub IsAsked : Result Updates (AllocOr ScriptRefusal) → Reply → Type 0
IsAsked (Ok updates) said = said ≡ reply.Updates updates
IsAsked (Err (Fault r)) said = said ≡ reply.Answer (answer.Refused r)
IsAsked (Err OutOfMemory) said = ⊥

-- what is told of updates is so much
pub record TellsUpdates (a : AcceptedAll) (w : Accepting) : Type 0 where
  pub count : a.count ≡ w.count
  pub posted : a.posted ≡ w.posted
  pub refused : a.refused ≡ w.refused

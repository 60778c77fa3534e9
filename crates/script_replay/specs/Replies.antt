-- What a cell replies to a line of the script (own, after C705, lookups of clerks).
use Rattle.std.specs.Prelude.{◌≡◌, ◌⊎◌, ℕ, Bool, true, false, if◌then◌else◌, List, [], ◌∷◌, ◌++◌, map, take, Option, Some, None, Result, Ok, Err}
use Rattle.std.specs.Option.{option_and_then, option_map_or}
use Rattle.cell_names.specs.FullNames.{components_of}
use Rattle.directory.specs.declared.entry.Kind.{Kind}
use Rattle.directory.specs.declared.entry.Kind.TheVariants as kind
use Rattle.directory.specs.Kinds.{link_target}
use Rattle.directory.specs.Shown.{targets}
use Rattle.directory.specs.declared.update.UpdateRefusal.{UpdateRefusal}
use Rattle.directory.specs.declared.update.UpdateRefusal.TheVariants as update
use Rattle.cell_model.specs.Cells.{Cell, Slot, Held}
use Rattle.cell_model.specs.Commands.{Command, Accept}
use Rattle.cell_model.specs.Sets.{has}
use Rattle.cell_model.specs.Steps.{is_down, is_unknown, message_at, outcome, replay_from}
use Rattle.purge_rule.specs.Replicas.{replica_of}
use Rattle.resolver.specs.declared.refusal.Refusal.{Refusal}
use Rattle.resolver.specs.declared.seen.Found.{Found}
use Rattle.resolver.specs.Readers.{Reader}
use Rattle.resolver.specs.WalkEnds.{walk_end}
use Rattle.cell_script.specs.CommandRows.{said_in}
use Rattle.cell_script.specs.declared.command.Question.{Question}
use Rattle.cell_script.specs.declared.command.Question.TheVariants as question
use Rattle.cell_script.specs.declared.command.ScriptLine.{ScriptLine}
use Rattle.cell_script.specs.declared.command.ScriptLine.TheVariants as line
use Rattle.script_answers.specs.declared.answer.Answer.{Answer}
use Rattle.script_answers.specs.declared.answer.Answer.TheVariants as answer
use Rattle.script_answers.specs.declared.answer.ScriptRefusal.{ScriptRefusal}
use Rattle.script_answers.specs.declared.answer.ScriptRefusal.TheVariants as why
use Rattle.script_answers.specs.Texts.{answer_text}
use Rattle.cds_cell.specs.Accepting.{Accepting, accept_in_turn}
use Rattle.cds_cell.specs.Readings.{cell_reader, objects_of}
use Rattle.cds_cell.specs.Recorded.{declared_members, image_at, octets_of}
use Rattle.cds_cell.specs.Scripted.{step_of, answer_of, update_refusal_of}
use Rattle.tower_codec.specs.declared.rpc.Interface.{Interface}
use Rattle.server_entries.specs.declared.client.Wanted.{Wanted}
use Rattle.ns_commands.specs.Asks.{Asks, add_element, add_member, delete_element, delete_member, export, refusal_of_walk, unexport}
use Rattle.ns_commands.specs.Imported.{import_answer}
use Rattle.cds_messages.specs.declared.message.Message as recorded
use Rattle.cds_records.specs.RecordOctets.{image_octets}
use Rattle.record_fields.specs.declared.fault.RecordFault.{RecordFault}
use Rattle.cds_messages.specs.Messages.{tag_of}
use Rattle.cds_records.specs.Records.{message}
use Rattle.record_fields.specs.Decoding.{decode_by}
use Rattle.line_forms.specs.Dialogues.{Dialogue, NumberedOf, transcript_by}

-- the values of an attribute of the entry that is found (own)
abbrev pub values_read : Reader → (attr : List ℕ) → Result Found Refusal → Answer
values_read reader attr (Ok found) = answer.Values (reader.values found attr)
values_read reader attr (Err r) = answer.Refused (refusal_of_walk r)

-- where the entry that is found leads, if it is a link: the name that its value reads as (own,
-- after C705, soft links)
abbrev pub first_target : List (List ℕ) → Answer
first_target [] = answer.Refused why.NotLink
first_target (v ∷ vs) = answer.Target (components_of v)

-- where an entry leads: a link to its target, and no other anywhere (own, after C705, soft links)
abbrev pub target_of : Kind → List (List ℕ) → Answer
target_of kind.Link values = first_target (targets values)
target_of other values = answer.Refused why.NotLink

-- where the entry that is found leads (own)
abbrev pub target_read : Reader → Result Found Refusal → Answer
target_read reader (Ok found) = target_of found.kind (reader.values found link_target)
target_read reader (Err r) = answer.Refused (refusal_of_walk r)

-- the message that octets begin with, by its tag and the number of its octets, or the first fault
-- (own)
abbrev pub message_told : Result (recorded.Message × ℕ) RecordFault → Answer
message_told (Ok r) = answer.Decoded (tag_of r.0.body) r.1
message_told (Err f) = answer.Refused (why.Octets f)

-- an answer for a question that names a house, or that there is no such house (own)
abbrev pub asked_of : Cell → (house : ℕ) → Answer → Answer
asked_of g house said = if has house g.made then said else answer.Refused why.NoHouse

-- what a client of `import` wants (own, after C706, importing bindings)
abbrev pub wanted_by : Interface → (object : List ℕ) → (tcp udp : Bool) → Wanted
wanted_by interface object tcp udp = record { interface = interface; object = object; tcp = tcp; udp = udp }

-- ---- what is held, and its octets

-- what a house has of a directory, told whole: its epoch, its AllUpTo, its members, and its table
-- without the deletions up to AllUpTo (own)
abbrev pub slot_told : Slot → Answer
slot_told (Held r) =
    answer.Dump (record { 0 = r.epoch }) r.all_up_to (declared_members r.members) (replica_of r.history r.all_up_to).table
slot_told other = answer.Refused why.NoReplica

-- the same, where there is such a directory, and the house is up (own)
abbrev pub dump_told : Cell → (h d : ℕ) → Answer
dump_told g h d =
    if is_unknown g d then answer.Refused why.NoDirectory
    else (if has h g.made then (if is_down g h then answer.Refused why.Down else slot_told ((g.house h).slots d))
    else answer.Refused why.NoHouse)

-- the octets of a record, if there is one (own)
abbrev pub octets_told : Option (List ℕ) → Answer
octets_told octets = option_map_or answer.Octets octets (answer.Refused why.NoMessage)

-- ---- what a line does and is answered

-- the commands of the model that a line makes, and the reply to it; to a command that has no answer
-- in the script there is none, and no cell of a run comes to that (own)
pub record Said : Type 0 where
  pub steps : List Command
  pub answer : Option Answer

-- a line that makes no command (own)
abbrev pub says : Answer → Said
says a = record { steps = []; answer = Some a }

-- why an update is refused after so many that were accepted, which posted these messages: these are
-- told where stamps are wanting (own)
abbrev pub refusal_behind : UpdateRefusal → (count : ℕ) → (posted : List ℕ) → ScriptRefusal
refusal_behind update.StampsSpent count posted = why.StampsSpent (Some count) posted
refusal_behind r count posted = update_refusal_of r

-- the answer to updates at a house: that all were accepted, or so many before one that is refused
-- (own)
abbrev pub updates_told : Accepting → Option UpdateRefusal → Answer
updates_told w None = answer.Updates w.count w.posted
updates_told w (Some r) = answer.Refused (refusal_behind r w.count w.posted)

-- what a command of the name service asks for is done: each update that is accepted is a command
-- (own, after C706, name service entries)
abbrev pub does : Cell → Asks → Said
does g (Err r) = says (answer.Refused r)
does g (Ok c) =
    let w : Accepting = accept_in_turn g c.house c.dir c.list in
    record { steps = map (Accept c.house c.dir) (take w.count c.list); answer = Some (updates_told w w.refused) }

-- no update is refused of those that are asked for, but for want of stamps (own)
abbrev pub LacksStampsAlone : Cell → Asks → Type 0
LacksStampsAlone g (Err r) = Unit {0}
LacksStampsAlone g (Ok c) = let w : Accepting = accept_in_turn g c.house c.dir c.list in (w.refused ≡ None) ⊎ (w.refused ≡ Some update.StampsSpent)

-- the reader by which a command of the name service finds its entry: no house is preferred, and the
-- master's replica alone is trusted (own, after C705, confidence of lookups)
abbrev pub trusted_reader : Cell → Reader
trusted_reader g = cell_reader g None true

-- what a question does and is answered. Most only ask: they name the house that is preferred, and
-- the confidence. `read` follows links to the last, `readlink` looks at the last itself (own, after
-- C705, lookups of clerks, and C706, name service operations)
abbrev pub question_said : Cell → Question → Said
question_said g (question.Read h high name attr) =
    says (asked_of g h.0 (values_read (cell_reader g (Some h.0) high) attr (walk_end (cell_reader g (Some h.0) high) true name)))
question_said g (question.Readlink h high name) =
    says (asked_of g h.0 (target_read (cell_reader g (Some h.0) high) (walk_end (cell_reader g (Some h.0) high) false name)))
question_said g (question.Export name interface bindings objects) = does g (export (trusted_reader g) name interface bindings objects)
question_said g (question.Unexport name interface objects) = does g (unexport (trusted_reader g) name interface objects)
question_said g (question.Groupadd name member) = does g (add_member (trusted_reader g) name member)
question_said g (question.Groupdel name member) = does g (delete_member (trusted_reader g) name member)
question_said g (question.Profadd name interface member priority note) = does g (add_element (trusted_reader g) name interface member priority note)
question_said g (question.Profdel name interface member) = does g (delete_element (trusted_reader g) name interface member)
question_said g (question.Import h high name interface object tcp udp) =
    says (asked_of g h.0 (import_answer (cell_reader g (Some h.0) high) (objects_of g) (wanted_by interface object tcp udp) name))
question_said g (question.Dump h d) = says (dump_told g h.0 d.0)
question_said g (question.OctetsMsg n) = says (octets_told (option_and_then octets_of (message_at g n)))
question_said g (question.OctetsHouse h) = says (asked_of g h.0 (answer.Octets (image_octets (image_at g h.0))))
question_said g (question.Decode octets) = says (message_told (decode_by message octets))

-- what a line does and is answered (own)
abbrev pub said_of : Cell → ScriptLine → Said
said_of g (line.Cell c) = record { steps = step_of c ∷ []; answer = answer_of (outcome g (step_of c)).answer }
said_of g (line.Question q) = question_said g q

-- the commands of the model that a line makes (own)
abbrev pub steps_of : Cell → ScriptLine → List Command
steps_of g l = (said_of g l).steps

-- the cell after a line (own)
abbrev pub cell_after : Cell → ScriptLine → Cell
cell_after g l = replay_from g (steps_of g l)

-- what a cell replies to a line (own)
abbrev pub reply_to : Cell → ScriptLine → Option Answer
reply_to g l = (said_of g l).answer

-- the text of a reply in the transcript, with the number of its line (own)
abbrev pub reply_text : ℕ → Cell → ScriptLine → List ℕ
reply_text number g l = option_map_or (answer_text number) (reply_to g l) []

-- ---- the transcript

-- what `run` answers line by line: a cell replays what each line says (own)
abbrev pub run_dialogue : Dialogue Cell ScriptLine
run_dialogue = record { says = said_in; text = reply_text; after = λ number g l. cell_after g l }

-- a line of the script, by its number
abbrev pub Numbered : Type 0
Numbered = NumberedOf ScriptLine

-- the transcript of numbered lines: the text of each reply, in order (own)
abbrev pub transcript : Cell → List Numbered → List ℕ
transcript = transcript_by run_dialogue

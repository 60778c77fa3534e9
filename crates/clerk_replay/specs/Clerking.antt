-- What `clerk` answers: as `run`, but that `read` at low confidence goes through one clerk (own,
-- after C705, caches of clerks).
use Rattle.std.specs.Prelude.{ℕ, false, if◌then◌else◌, List, [], Option, Some, None, Result, Ok, Err}
use Rattle.std.specs.Option.{option_map_or}
use Rattle.cds_stamps.specs.declared.numbers.HouseNo.{HouseNo}
use Rattle.cell_names.specs.ChildPointers.{Pointer}
use Rattle.cell_model.specs.Cells as model
use Rattle.cell_model.specs.Sets.{has}
use Rattle.resolver.specs.declared.refusal.Refusal.{Refusal}
use Rattle.resolver.specs.declared.seen.Found.{Found}
use Rattle.resolver.specs.Readers.{Reader}
use Rattle.resolver.specs.ChangingEnds.{resolution_of}
use Rattle.clerk_cache.specs.declared.clerk.Clerk.{Clerk}
use Rattle.clerk_cache.specs.Clerks.{clerk_reader, new_clerk, values_answer}
use Rattle.cell_script.specs.CommandRows.{said_in}
use Rattle.cell_script.specs.declared.command.Question.TheVariants as question
use Rattle.cell_script.specs.declared.command.ScriptLine.{ScriptLine}
use Rattle.cell_script.specs.declared.command.ScriptLine.TheVariants as line
use Rattle.script_answers.specs.declared.answer.Answer.{Answer}
use Rattle.script_answers.specs.declared.answer.Answer.TheVariants as answer
use Rattle.script_answers.specs.declared.answer.ScriptRefusal.TheVariants as why
use Rattle.script_answers.specs.Texts.{answer_text}
use Rattle.cds_cell.specs.Readings.{cell_reader}
use Rattle.ns_commands.specs.Asks.{refusal_of_walk}
use Rattle.line_forms.specs.Dialogues.{Dialogue}
use Rattle.script_replay.specs.Replies.{cell_after, reply_to}

-- the state of the form: the cell that is replayed, and the clerk that reads it (own)
pub record Clerked : Type 0 where
  pub cell : model.Cell
  pub clerk : Clerk

-- at the start no house is there and no answer is kept; each question names the house that it
-- prefers first (own)
abbrev pub start : (room : ℕ) → Clerked
start room = record { cell = model.empty_cell; clerk = new_clerk room (record { 0 = 1 }) }

-- ---- what is read

-- values that are answered; or that the house that is asked now does not show the entry to which a
-- kept answer led, or that none answers (own)
abbrev pub values_or_vanished : Option (List (List ℕ)) → Answer
values_or_vanished values = option_map_or answer.Values values (answer.Refused why.Vanished)

-- what is answered of the values of an attribute of an entry, and the clerk then (own)
abbrev pub values_told : (now : ℕ) → Reader → Pointer → (name attr : List ℕ) → Clerk → Answer × Clerk
values_told now reader at name attr c = let r = values_answer now reader at name attr c in (values_or_vanished r.0, r.1)

-- the same after a walk; each walk that finds an entry ends in a directory (own)
abbrev pub read_behind : (now : ℕ) → Reader → (attr : List ℕ) → Result (Option Pointer × Found) Refusal → Clerk → Answer × Clerk
read_behind now reader attr (Ok (Some at, found)) c = values_told now reader at found.name attr c
read_behind now reader attr (Ok (None, found)) c = (answer.Refused why.Vanished, c)
read_behind now reader attr (Err r) c = (answer.Refused (refusal_of_walk r), c)

-- what is answered of the values of an attribute of the entry that a name leads to, each question
-- through the clerk; and the clerk then (own, after C705, caches of clerks)
abbrev pub read_by_clerk : (now : ℕ) → Reader → (name : List (List ℕ)) → (attr : List ℕ) → Clerk → Answer × Clerk
read_by_clerk now reader name attr c = let r = resolution_of (clerk_reader now reader) c name in read_behind now reader attr r.0 r.1

-- ---- what a line is answered

-- what `read` at low confidence asks for (own)
pub record LowRead : Type 0 where
  pub house : HouseNo
  pub name : List (List ℕ)
  pub attr : List ℕ

-- what a line asks for, if it is such a `read` (own)
abbrev pub low_read : ScriptLine → Option LowRead
low_read (line.Question (question.Read h false name attr)) = Some (record { house = h; name = name; attr = attr })
low_read other = None

-- what such a `read` is answered, and the clerk then: from now on it prefers that house, if it is
-- there (own)
abbrev pub read_at : (number : ℕ) → Clerked → LowRead → Answer × Clerk
read_at number s q =
    if has q.house.0 s.cell.made
    then read_by_clerk number (cell_reader s.cell (Some q.house.0) false) q.name q.attr (record s.clerk { prefer = q.house })
    else (answer.Refused why.NoHouse, s.clerk)

-- what a line is answered, and the clerk then: only `read` at low confidence touches the clerk
-- (own)
abbrev pub reply_at : (number : ℕ) → Clerked → ScriptLine → Option LowRead → Option Answer × Clerk
reply_at number s l (Some q) = let r = read_at number s q in (Some r.0, r.1)
reply_at number s l None = (reply_to s.cell l, s.clerk)

-- the same of the line alone (own)
abbrev pub reply_by_clerk : (number : ℕ) → Clerked → ScriptLine → Option Answer × Clerk
reply_by_clerk number s l = reply_at number s l (low_read l)

-- the text of the reply, with the number of the line (own)
abbrev pub reply_text : ℕ → Clerked → ScriptLine → List ℕ
reply_text number s l = option_map_or (answer_text number) (reply_by_clerk number s l).0 []

-- the cell and the clerk after a line (own)
abbrev pub clerked_after : ℕ → Clerked → ScriptLine → Clerked
clerked_after number s l = record { cell = cell_after s.cell l; clerk = (reply_by_clerk number s l).1 }

-- what `clerk` answers line by line (own, after C705, caches of clerks)
abbrev pub clerk_dialogue : Dialogue Clerked ScriptLine
clerk_dialogue = record { says = said_in; text = reply_text; after = clerked_after }

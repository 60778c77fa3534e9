-- What the journals of a cell's houses get, line by line, and what the form `journal` makes of a
-- line.
use Rattle.std.specs.Prelude.{ℕ, ◌^◌, nat_lt, Bool, true, false, ◌&&◌, ◌||◌, not, if◌then◌else◌, List, [], ◌∷◌, ◌++◌, Option, Some, None, Result, Ok, Err}
use Rattle.std.specs.Option.{option_map_or}
use Rattle.cell_model.specs.Cells.{Cell, empty_cell, put}
use Rattle.cell_model.specs.Commands.{Command}
use Rattle.cell_model.specs.Sets.{has}
use Rattle.cell_model.specs.Steps.{outcome, replay_from}
use Rattle.cds_cell.specs.CommandImages.{actors, octets_at}
use Rattle.cds_cell.specs.Scripted.{step_of}
use Rattle.cell_script.specs.declared.fault.ParseFault.{ParseFault}
use Rattle.cell_script.specs.Words.{words_of}
use Rattle.reply_buffer.specs.Responses.{ResponseOf, Fills}
use Rattle.disk_journals.specs.KeptJournals.{is_last, size_of, stops_after}
use Rattle.journal_forms.specs.JournalLines.{said_in}
use Rattle.journal_forms.specs.JournalTexts.{journal_text}
use Rattle.journal_forms.specs.declared.journal_line.JournalLine.{JournalLine}
use Rattle.journal_forms.specs.declared.journal_line.JournalLine.TheVariants as line
use Rattle.journal_forms.specs.declared.journal_answer.JournalAnswer.{JournalAnswer}
use Rattle.line_forms.specs.Dialogues.{Dialogue, reply_of}
use Rattle.journal_replay.specs.Journaled.{journal_said, stop_refused}

-- the images of each house's journal, the oldest first
abbrev pub Lists : Type 0
Lists = ℕ → List (List ℕ)

-- a cell, and the journals of its houses
pub record JournaledCell : Type 0 where
  pub cell : Cell
  pub lists : Lists

-- a cell without houses, and empty journals
abbrev pub empty_state : JournaledCell
empty_state = record { cell = empty_cell; lists = λ h. [] }

-- ---- puts

-- a house puts an image into its journal
pub record Put : Type 0 where
  pub house : ℕ
  pub image : List ℕ

-- the journals after a put
abbrev pub with_put : Put → Lists → Lists
with_put p lists = put lists p.house (lists p.house ++ p.image ∷ [])

-- the journals after several
abbrev pub with_puts : List Put → Lists → Lists
with_puts [] lists = lists
with_puts (p ∷ ps) lists = with_puts ps (with_put p lists)

-- a house has an image that its journal lacks; houses are numbered from 1 on
abbrev pub has_to_put : Cell → Lists → (h : ℕ) → Bool
has_to_put g lists h = nat_lt 0 h && (has h g.made && not (is_last (octets_at g h) (lists h)))

-- houses put their images, one after another: each that has one which its journal lacks
abbrev pub puts_of : Cell → (houses : List ℕ) → Lists → List Put
puts_of g [] lists = []
puts_of g (x ∷ xs) lists =
    let p : Put = record { house = x; image = octets_at g x } in
    if has_to_put g lists x then p ∷ puts_of g xs (with_put p lists) else puts_of g xs lists

-- the houses that act in commands, all of which are at the same houses
abbrev pub acting_houses : Cell → List Command → List ℕ
acting_houses g [] = []
acting_houses g (c ∷ cs) = actors g c

-- the puts of a line that stops a command: its house puts the image that the command makes, unless
-- the stop is refused
abbrev pub stop_puts : JournaledCell → (h : ℕ) → Command → Option JournalAnswer → List Put
stop_puts s h c (Some refused) = []
stop_puts s h c None = puts_of (outcome s.cell c).cell (h ∷ []) s.lists

-- the cell after a line
abbrev pub cell_after : Cell → JournalLine → Cell
cell_after g l = replay_from g (journal_said g l).steps

-- the puts of a line, before its answer is written: those of the houses that act in its commands
abbrev pub puts_in : JournaledCell → JournalLine → List Put
puts_in s (line.Plain l) = puts_of (cell_after s.cell (line.Plain l)) (acting_houses s.cell (journal_said s.cell (line.Plain l)).steps) s.lists
puts_in s (line.Image h) = []
puts_in s (line.Stop h call leave c) = stop_puts s h.0 (step_of c) (stop_refused s.cell h.0 (step_of c))

-- the puts of a line leave their images: all but one that is stopped before
abbrev pub lasts : JournalLine → Bool
lasts (line.Plain l) = true
lasts (line.Image h) = true
lasts (line.Stop h call leave c) = stops_after call leave

-- the journals after a line
abbrev pub lists_after : JournaledCell → JournalLine → Lists
lists_after s l = if lasts l then with_puts (puts_in s l) s.lists else s.lists

-- ---- the form

-- what a line leaves
abbrev pub state_after : JournaledCell → JournalLine → JournaledCell
state_after s l = record { cell = cell_after s.cell l; lists = lists_after s l }

-- the text of the answer to a line
abbrev pub reply_text : ℕ → JournaledCell → JournalLine → List ℕ
reply_text number s l = option_map_or (journal_text number) (journal_said s.cell l).answer []

-- what `journal` answers line by line
abbrev pub journal_dialogue : Dialogue JournaledCell JournalLine
journal_dialogue = record { says = said_in; text = reply_text; after = λ number s l. state_after s l }

-- ---- room

-- no room is left for one of these puts: with it the journal would have more than 2^40 octets
abbrev pub lacks_room : Lists → List Put → Bool
lacks_room lists [] = false
lacks_room lists (p ∷ ps) = nat_lt (2 ^ 40) (size_of (lists p.house ++ p.image ∷ [])) || lacks_room (with_put p lists) ps

-- what a line puts whose words say this
abbrev pub puts_by : JournaledCell → Result (Option JournalLine) ParseFault → List Put
puts_by s (Ok (Some l)) = puts_in s l
puts_by s (Ok None) = []
puts_by s (Err fault) = []

-- what `journal` makes of what a line says: no room is left in a journal, or it answers
abbrev pub response_to : ℕ → JournaledCell → Result (Option JournalLine) ParseFault → ResponseOf JournaledCell
response_to number s said = if lacks_room s.lists (puts_by s said) then Fills else reply_of journal_dialogue number s said

-- what `journal` makes of a line
abbrev pub journal_response : ℕ → JournaledCell → List ℕ → ResponseOf JournaledCell
journal_response number s line = response_to number s (said_in (words_of line))

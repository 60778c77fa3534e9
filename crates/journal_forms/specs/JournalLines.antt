-- What a line of the form `journal` says: the commands of `run`, and two more.
use Rattle.std.specs.Prelude.{ℕ, ◌+◌, ◌≤◌, Bool, true, false, ◌||◌, if◌then◌else◌, List, [], ◌∷◌, length, codes, Option, Some, None, Result, Ok, Err}
use Rattle.std.specs.Result.{result_err}
use Rattle.std.specs.Str.{bytes_eq}
use Rattle.cds_stamps.specs.declared.numbers.HouseNo.{HouseNo}
use Rattle.house_journal.specs.declared.leave.Leave.{Leave}
use Rattle.house_journal.specs.declared.leave.Leave.TheVariants.{Keep, Drop, Torn}
use Rattle.cell_script.specs.declared.command.Command.{Command}
use Rattle.cell_script.specs.declared.command.ScriptLine.{ScriptLine}
use Rattle.cell_script.specs.declared.command.ScriptLine.TheVariants as script
use Rattle.cell_script.specs.declared.fault.ParseFault.{ParseFault}
use Rattle.cell_script.specs.declared.fault.ParseFault.TheVariants.{WrongCount, BadWord}
use Rattle.cell_script.specs.Words.{house_of, number_to}
use Rattle.cell_script.specs.WordForms.{◌>>=◌, Words, One, count_fault, read_as, said_at}
use Rattle.cell_script.specs.CommandRows.{line_in, fault_in}
use Rattle.cell_script.specs.CommandRows as plain
use Rattle.journal_forms.specs.declared.journal_line.JournalLine.{JournalLine}
use Rattle.journal_forms.specs.declared.journal_line.JournalLine.TheVariants as line

-- ---- image

-- what the words after `image` say: a house
abbrev pub image_said : Words → Result JournalLine ParseFault
image_said = read_as (One house_of ∷ []) line.Image

-- the fault of their number
abbrev pub image_early : Words → Option ParseFault
image_early = count_fault (One house_of ∷ [])

-- ---- stop

-- the number of a writing call of a put, 1 to 4
abbrev pub call_of : List ℕ → Option ℕ
call_of = number_to 4

-- what a stop leaves
abbrev pub leave_of : List ℕ → Option Leave
leave_of w =
    if bytes_eq w (codes "keep") then Some Keep
    else (if bytes_eq w (codes "drop") then Some Drop
    else (if bytes_eq w (codes "torn") then Some Torn else None))

-- the commands that can be stopped: those by which one house acts, on a directory or on a message
abbrev pub stoppable_words : List (List ℕ)
stoppable_words =
    codes "root" ∷ codes "repoint" ∷ codes "create" ∷ codes "link" ∷ codes "delete" ∷ codes "add" ∷ codes "remove" ∷ codes "put"
    ∷ codes "clear" ∷ codes "epoch" ∷ codes "skulk" ∷ codes "deliver" ∷ []

-- a word is one of these
abbrev pub is_among : List (List ℕ) → List ℕ → Bool
is_among [] word = false
is_among (w ∷ ws) word = bytes_eq word w || is_among ws word

abbrev pub is_stoppable : List ℕ → Bool
is_stoppable = is_among stoppable_words

-- the words after the fifth one of a line
abbrev pub behind_five : List (List ℕ) → Words
behind_five ws = record { read = 5; rest = ws }

-- the command that a line of `run` is, if it is no question
abbrev pub command_in : ScriptLine → Option Command
command_in (script.Cell c) = Some c
command_in (script.Question q) = None

-- a command that can be stopped, by the fifth word and those after it
abbrev pub command_said : List ℕ → List (List ℕ) → Result Command ParseFault
command_said name ws =
    if is_stoppable name then plain.said_by name (behind_five ws) >>= (λ l. said_at 5 (command_in l)) else Err (BadWord 5)

-- the fault that its words are too few or too many
abbrev pub command_miscounted : List ℕ → List (List ℕ) → Option ParseFault
command_miscounted name ws = if is_stoppable name then plain.early_by name (behind_five ws) else None

-- this, unless there is a fault
abbrev pub unless : {A : Type 0} → Option ParseFault → Result A ParseFault → Result A ParseFault
unless None said = said
unless (Some fault) said = Err fault

-- what is before a command: the house, the call and what is left
abbrev pub Stopping : Type 0
Stopping = HouseNo × ℕ × Leave

-- words two to four
abbrev pub stop_of_words : (h k w : List ℕ) → Result Stopping ParseFault
stop_of_words h k w = do
  house ← said_at 2 (house_of h)
  call ← said_at 3 (call_of k)
  leave ← said_at 4 (leave_of w)
  Ok (house, call, leave)

-- what the words after `stop` say: fewer than four are too few; then the number of the command's
-- words is told, and then the first word from the left that is not of its form
abbrev pub stop_said : List (List ℕ) → Result JournalLine ParseFault
stop_said (h ∷ k ∷ w ∷ name ∷ ws) = unless (command_miscounted name ws) (do
  at ← stop_of_words h k w
  command ← command_said name ws
  Ok (line.Stop at.0 at.1 at.2 command))
stop_said few = Err (WrongCount (length few + 1))

-- the fault that shows before a word of the command is read
abbrev pub stop_early : List (List ℕ) → Option ParseFault
stop_early (h ∷ k ∷ w ∷ name ∷ ws) = result_err (unless (command_miscounted name ws) (do
  at ← stop_of_words h k w
  if is_stoppable name then Ok name else Err (BadWord 5)))
stop_early few = Some (WrongCount (length few + 1))

-- ---- lines

-- what the words after the first one say
abbrev pub said_by : List ℕ → Words → Result JournalLine ParseFault
said_by word s =
    if bytes_eq word (codes "image") then image_said s
    else (if bytes_eq word (codes "stop") then stop_said s.rest
    else plain.said_by word s >>= λ l. Ok (line.Plain l))

-- the fault of them that shows early: of memory it needs none
abbrev pub early_by : List ℕ → Words → Option ParseFault
early_by word s =
    if bytes_eq word (codes "image") then image_early s
    else (if bytes_eq word (codes "stop") then stop_early s.rest else plain.early_by word s)

-- what a line says
abbrev pub said_in : List (List ℕ) → Result (Option JournalLine) ParseFault
said_in = line_in said_by

-- the fault of a line that shows early
abbrev pub early_fault : List (List ℕ) → Option ParseFault
early_fault = fault_in early_by

-- a line names a house by a number that a house can have, and one of the four calls
abbrev pub HasNumbers : JournalLine → Type 0
HasNumbers (line.Plain l) = Unit {0}
HasNumbers (line.Image h) = 1 ≤ h.0
HasNumbers (line.Stop h call leave c) = (1 ≤ h.0) × (1 ≤ call) × (call ≤ 4)

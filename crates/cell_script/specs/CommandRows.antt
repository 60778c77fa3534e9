-- What a line of the script says: the table of its commands.
use Rattle.std.specs.Prelude.{ℕ, Bool, true, if◌then◌else◌, List, [], ◌∷◌, ◌++◌, map, nat_eq, Some, None, Option, Ok, Err, Result, codes}
use Rattle.std.specs.List.{starts_with}
use Rattle.std.specs.Str.{bytes_eq}
use Rattle.directory.specs.declared.update.Update.{Update}
use Rattle.directory.specs.declared.update.Update.TheVariants as update
use Rattle.cell_script.specs.declared.command.Command.{Command}
use Rattle.cell_script.specs.declared.command.Command.TheVariants as command
use Rattle.cell_script.specs.declared.command.Question.{Question}
use Rattle.cell_script.specs.declared.command.Question.TheVariants as question
use Rattle.cell_script.specs.declared.command.ScriptLine.{ScriptLine}
use Rattle.cell_script.specs.declared.command.ScriptLine.TheVariants as line
use Rattle.cell_script.specs.declared.update_word.UpdateWord.{UpdateWord}
use Rattle.cell_script.specs.declared.update_word.UpdateWord.TheVariants as kind
use Rattle.cell_script.specs.declared.fault.ParseFault.{ParseFault}
use Rattle.cell_script.specs.declared.fault.ParseFault.TheVariants.{UnknownCommand}
use Rattle.cell_script.specs.Words.{house_of, listed_of, directory_of, serial_of, node_of, number_of, simple_name_of, full_name_of, attr_name_of, octets_value_of}
use Rattle.cell_script.specs.Words.{octets_of, confidence_of}
use Rattle.cell_script.specs.NameService.{interface_of, element_interface_of, interface_or_none_of, bindings_of, objects_of}
use Rattle.cell_script.specs.NameService.{object_of, protocols_of, priority_of, note_of}
use Rattle.cell_script.specs.WordForms.{◌>>=◌, Form, One, Many, Encoded, Words}
use Rattle.cell_script.specs.WordForms.{Builds, build_words, followed_by, count_fault, read_as}

-- a command of any type of line: its first word, the forms of the words after it, and what a line
-- of them says
pub record RowOf (Line : Type 0) : Type 1 where
  pub word : List ℕ
  pub forms : List Form
  pub says : Builds forms Line

-- a command of these
abbrev pub row : {Line : Type 0} → List ℕ → (forms : List Form) → Builds forms Line → RowOf Line
row word forms build = record { word = word; forms = forms; says = build }

-- what the words after the first one say, by the row of the first one, or where no row has it
abbrev pub said_among : {Line : Type 0} → List (RowOf Line) → Result Line ParseFault → List ℕ → Words → Result Line ParseFault
said_among [] other word s = other
said_among (row ∷ rows) other word s =
    if bytes_eq word row.word then read_as row.forms row.says s else said_among rows other word s

-- the fault that shows before a word after the first one is read: that of their number, by the row
-- of the first one, or what is told where no row has it
abbrev pub early_among : {Line : Type 0} → List (RowOf Line) → Option ParseFault → List ℕ → Words → Option ParseFault
early_among [] other word s = other
early_among (row ∷ rows) other word s = if bytes_eq word row.word then count_fault row.forms s else early_among rows other word s

-- a line of any type that says something, or its fault
abbrev pub some_line : {Line : Type 0} → Result Line ParseFault → Result (Option Line) ParseFault
some_line r = r >>= λ l. Ok (Some l)

-- a line that says nothing: it has no words, or its first word begins with #
abbrev pub says_nothing : List (List ℕ) → Bool
says_nothing [] = true
says_nothing (word ∷ words) = starts_with nat_eq word (codes "#")

-- what a line says, where this is what the words after its first one say: a line without words, or
-- whose first word begins with #, says nothing
abbrev pub line_in : {Line : Type 0} → (List ℕ → Words → Result Line ParseFault) → List (List ℕ) → Result (Option Line) ParseFault
line_in says [] = Ok None
line_in says (word ∷ words) =
    if starts_with nat_eq word (codes "#") then Ok None
    else some_line (says word (record { read = 1; rest = words }))

-- the fault of a line that shows early, where this is the fault of the words after its first one
-- that does
abbrev pub fault_in : (List ℕ → Words → Option ParseFault) → List (List ℕ) → Option ParseFault
fault_in early [] = None
fault_in early (word ∷ words) =
    if starts_with nat_eq word (codes "#") then None else early word (record { read = 1; rest = words })

-- ---- the script

abbrev pub Row : Type 1
Row = RowOf ScriptLine

-- an update of an entry: its first word, and the words after the directory
abbrev pub update_row : UpdateWord → RowOf Update
update_row kind.Create = row (codes "create") (One simple_name_of ∷ []) update.Create
update_row kind.Link = row (codes "link") (One simple_name_of ∷ One full_name_of ∷ []) update.MakeLink
update_row kind.Delete = row (codes "delete") (One simple_name_of ∷ []) update.Delete
update_row kind.Add = row (codes "add") (One simple_name_of ∷ One attr_name_of ∷ One octets_value_of ∷ []) update.Add
update_row kind.Remove = row (codes "remove") (One simple_name_of ∷ One attr_name_of ∷ One octets_value_of ∷ []) update.Remove
update_row kind.Put = row (codes "put") (One simple_name_of ∷ One attr_name_of ∷ One octets_value_of ∷ []) update.Put
update_row kind.Clear = row (codes "clear") (One simple_name_of ∷ One attr_name_of ∷ []) update.Clear

-- the updates of an entry
abbrev pub update_words : List UpdateWord
update_words = kind.Create ∷ kind.Link ∷ kind.Delete ∷ kind.Add ∷ kind.Remove ∷ kind.Put ∷ kind.Clear ∷ []

-- what the words after the directory say
unfoldable pub update_in : UpdateWord → Words → Result Update ParseFault
update_in kind s = build_words (update_row kind).forms (update_row kind).says s

-- the first of these that a first word is of
abbrev pub update_among : List UpdateWord → List ℕ → Option UpdateWord
update_among [] word = None
update_among (kind ∷ kinds) word = if bytes_eq word (update_row kind).word then Some kind else update_among kinds word

-- a step of the cell, and a command that finds its entry by a full name, or asks
abbrev pub step : List ℕ → (forms : List Form) → Builds forms Command → Row
step word forms build = row word forms (followed_by line.Cell forms build)

abbrev pub asks : List ℕ → (forms : List Form) → Builds forms Question → Row
asks word forms build = row word forms (followed_by line.Question forms build)

-- an update of an entry: the house and the directory, then what the update is of
abbrev pub updates : UpdateWord → Row
updates kind =
    let r = update_row kind in step r.word (One house_of ∷ One directory_of ∷ r.forms) (λ h d. followed_by (command.Update h d) r.forms r.says)

-- the commands: what makes houses and directories; the updates of an entry; what is about all
-- replicas of a directory; what befalls messages and houses; the questions; and the commands of the
-- name service (own, after C706, name service operations)
abbrev pub rows : List Row
rows =
    step (codes "house") (One house_of ∷ One node_of ∷ []) command.House
    ∷ step (codes "clock") (One house_of ∷ One number_of ∷ []) command.Clock
    ∷ step (codes "root") (One house_of ∷ Many listed_of ∷ []) command.Root
    ∷ step (codes "mkdir") (One house_of ∷ One directory_of ∷ One simple_name_of ∷ One house_of ∷ Many listed_of ∷ []) command.Mkdir
    ∷ step (codes "repoint") (One house_of ∷ One directory_of ∷ One simple_name_of ∷ One house_of ∷ Many house_of ∷ []) command.Repoint
    ∷ map updates update_words
    ++ step (codes "epoch") (One directory_of ∷ One house_of ∷ Many listed_of ∷ []) command.Epoch
    ∷ step (codes "skulk") (One house_of ∷ One directory_of ∷ []) command.Skulk
    ∷ step (codes "deliver") (One serial_of ∷ []) command.Deliver
    ∷ step (codes "lose") (One serial_of ∷ []) command.Lose
    ∷ step (codes "crash") (One house_of ∷ []) command.Crash
    ∷ step (codes "start") (One house_of ∷ []) command.Start
    ∷ asks (codes "read") (One house_of ∷ One confidence_of ∷ One full_name_of ∷ One attr_name_of ∷ []) question.Read
    ∷ asks (codes "readlink") (One house_of ∷ One confidence_of ∷ One full_name_of ∷ []) question.Readlink
    ∷ asks (codes "dump") (One house_of ∷ One directory_of ∷ []) question.Dump
    ∷ asks (codes "octets") (Encoded ∷ []) (λ q. q)
    ∷ asks (codes "decode") (One octets_of ∷ []) question.Decode
    ∷ asks (codes "export") (One full_name_of ∷ One interface_of ∷ One bindings_of ∷ One objects_of ∷ []) question.Export
    ∷ asks (codes "unexport") (One full_name_of ∷ One interface_or_none_of ∷ One objects_of ∷ []) question.Unexport
    ∷ asks (codes "groupadd") (One full_name_of ∷ One full_name_of ∷ []) question.Groupadd
    ∷ asks (codes "groupdel") (One full_name_of ∷ One full_name_of ∷ []) question.Groupdel
    ∷ asks (codes "profadd") (One full_name_of ∷ One element_interface_of ∷ One full_name_of ∷ One priority_of ∷ One note_of ∷ []) question.Profadd
    ∷ asks (codes "profdel") (One full_name_of ∷ One element_interface_of ∷ One full_name_of ∷ []) question.Profdel
    ∷ asks (codes "import") (One house_of ∷ One confidence_of ∷ One full_name_of ∷ One interface_of ∷ One object_of ∷ One protocols_of ∷ [])
    (λ h c n i o p. question.Import h c n i o p.0 p.1)
    ∷ []

-- the fault of a first word that no row has
abbrev pub no_command : {Line : Type 0} → Result Line ParseFault
no_command = Err (UnknownCommand 1)

-- what the words after a first word say, by the row of that word among all commands
unfoldable pub said_by : List ℕ → Words → Result ScriptLine ParseFault
said_by = said_among rows no_command

-- the fault of a first word of no command, or else of a wrong number of words after it
unfoldable pub early_by : List ℕ → Words → Option ParseFault
early_by = early_among rows (Some (UnknownCommand 1))

-- what a line says
abbrev pub said_in : List (List ℕ) → Result (Option ScriptLine) ParseFault
said_in = line_in said_by

-- the fault of a line that shows before any word but the first one is read
abbrev pub early_fault : List (List ℕ) → Option ParseFault
early_fault = fault_in early_by

-- What a line of a house says: the table of its commands, which are those of scripts without the
-- house that does them.
use Rattle.std.specs.Prelude.{ℕ, Bool, true, if◌then◌else◌, List, [], ◌∷◌, ◌++◌, map, Some, Option, Ok, Result, codes}
use Rattle.std.specs.Str.{bytes_eq}
use Rattle.std.specs.Result.{result_err}
use Rattle.cell_script.specs.declared.update_word.UpdateWord.{UpdateWord}
use Rattle.cell_script.specs.declared.fault.ParseFault.{ParseFault}
use Rattle.cell_script.specs.declared.fault.ParseFault.TheVariants.{UnknownCommand}
use Rattle.cell_script.specs.Words.{attr_name_of, confidence_of, directory_of, house_of, listed_of, node_of, number_of, octets_of, serial_of, simple_name_of}
use Rattle.cell_script.specs.WordForms.{◌>>=◌, One, Many}
use Rattle.cell_script.specs.WordForms.{Words, check_count, followed_by, take_words}
use Rattle.cell_script.specs.CommandRows.{RowOf, row, update_row, update_words, said_among, early_among, no_command, line_in, fault_in}
use Rattle.house_lines.specs.declared.line.HouseLine.{HouseLine}
use Rattle.house_lines.specs.declared.line.HouseLine.TheVariants as line
use Rattle.house_lines.specs.declared.line.HouseOrder.TheVariants as order
use Rattle.house_lines.specs.declared.line.HouseQuestion.TheVariants as question
use Rattle.house_lines.specs.Listings.{list_said}

-- the commands that make the house and directories
abbrev pub making_rows : List (RowOf HouseLine)
making_rows =
    row (codes "house") (One house_of ∷ One node_of ∷ []) line.House
    ∷ row (codes "clock") (One number_of ∷ []) line.Clock
    ∷ row (codes "root") (Many listed_of ∷ []) (λ ls. line.Order (order.Root ls))
    ∷ row (codes "mkdir") (One directory_of ∷ One simple_name_of ∷ One directory_of ∷ Many listed_of ∷ [])
    (λ d s m ls. line.Order (order.Mkdir d s m ls))
    ∷ row (codes "repoint") (One directory_of ∷ One simple_name_of ∷ One house_of ∷ Many house_of ∷ [])
    (λ d s h hs. line.Order (order.Repoint d s h hs))
    ∷ []

-- an update of an entry: the directory, then what the update is of
abbrev pub updates : UpdateWord → RowOf HouseLine
updates kind =
    let r = update_row kind in row r.word (One directory_of ∷ r.forms) (λ d. followed_by (λ u. line.Order (order.Update d u)) r.forms r.says)

-- the updates of an entry
abbrev pub update_rows : List (RowOf HouseLine)
update_rows = map updates update_words

-- a skulk, and the octets of messages
abbrev pub message_rows : List (RowOf HouseLine)
message_rows =
    row (codes "skulk") (One directory_of ∷ []) (λ d. line.Order (order.Skulk d))
    ∷ row (codes "more") (One octets_of ∷ []) line.More
    ∷ row (codes "take") (One octets_of ∷ []) (λ os. line.Order (order.Take os))
    ∷ []

-- the questions
abbrev pub question_rows : List (RowOf HouseLine)
question_rows =
    row (codes "dump") (One directory_of ∷ []) (λ d. line.Ask (question.Dump d))
    ∷ row (codes "look") (One directory_of ∷ One simple_name_of ∷ One attr_name_of ∷ []) (λ d s a. line.Ask (question.Look d s a))
    ∷ row (codes "show") (One confidence_of ∷ One directory_of ∷ One simple_name_of ∷ []) (λ c d s. line.Ask (question.Show c d s))
    ∷ row (codes "status") (One directory_of ∷ []) (λ d. line.Ask (question.Status d))
    ∷ row (codes "directories") [] (line.Ask question.Directories)
    ∷ row (codes "image") [] (line.Ask question.Image)
    ∷ []

-- the commands but `epoch`
abbrev pub rows : List (RowOf HouseLine)
rows = making_rows ++ (update_rows ++ (message_rows ++ question_rows))

-- ---- epochs

-- an epoch has a directory, a number, and a list of one word or more
abbrev pub epoch_count : Words → Result (Unit {0}) ParseFault
epoch_count = check_count true 3

-- what the words after `epoch` say, if they are not too few
unfoldable pub epoch_words : Words → Result HouseLine ParseFault
epoch_words s = do
  dir ← take_words (One directory_of) s
  number ← take_words (One serial_of) dir.1
  list ← list_said number.1
  Ok (line.Order (order.Epoch dir.0 (record { 0 = number.0 }) list))

-- what they say
abbrev pub epoch_said : Words → Result HouseLine ParseFault
epoch_said s = epoch_count s >>= λ _. epoch_words s

-- ---- lines

-- whether a first word is that of an epoch
abbrev pub is_epoch : List ℕ → Bool
is_epoch word = bytes_eq word (codes "epoch")

-- what the words after a first word say
unfoldable pub said_by : List ℕ → Words → Result HouseLine ParseFault
said_by word s = if is_epoch word then epoch_said s else said_among rows no_command word s

-- the fault of a first word of no command, or else of a wrong number of words after it
unfoldable pub early_by : List ℕ → Words → Option ParseFault
early_by word s = if is_epoch word then result_err (epoch_count s) else early_among rows (Some (UnknownCommand 1)) word s

-- what a line says
abbrev pub said_in : List (List ℕ) → Result (Option HouseLine) ParseFault
said_in = line_in said_by

-- the fault of a line that shows before any word but the first one is read
abbrev pub early_fault : List (List ℕ) → Option ParseFault
early_fault = fault_in early_by

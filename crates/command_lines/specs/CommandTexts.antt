-- The words of a command of a script, and its line.
use Rattle.std.specs.Prelude.{ℕ, if◌then◌else◌, List, [], ◌∷◌, ◌++◌, map, codes}
use Rattle.std.specs.Fmt.{decimal}
use Rattle.hex.specs.Hex.{encode_lower}
use Rattle.cds_stamps.specs.declared.numbers.HouseNo.{HouseNo}
use Rattle.cell_names.specs.FullNames.{full_name_octets}
use Rattle.directory.specs.declared.update.Update.{Update}
use Rattle.directory.specs.declared.update.Update.TheVariants as update
use Rattle.cell_script.specs.declared.command.Command.{Command}
use Rattle.cell_script.specs.declared.command.Command.TheVariants as command
use Rattle.cell_script.specs.declared.lists.Listed.{Listed}
use Rattle.script_answers.specs.Texts.{node_octets, unwords}

-- a house, by its number
abbrev pub house_word : HouseNo → List ℕ
house_word h = decimal h.0

-- a house of a replica set, after an `s` if it is secondary
abbrev pub listed_word : Listed → List ℕ
listed_word l = if l.secondary then 115 ∷ house_word l.house else house_word l.house

-- the first word of an update; a child is made by no update of a script, and has no word
abbrev pub update_word : Update → List ℕ
update_word (update.Create s) = codes "create"
update_word (update.MakeLink s n) = codes "link"
update_word (update.MakeChild s p) = []
update_word (update.Delete s) = codes "delete"
update_word (update.Add s a v) = codes "add"
update_word (update.Remove s a v) = codes "remove"
update_word (update.Put s a v) = codes "put"
update_word (update.Clear s a) = codes "clear"
update_word (update.Repoint s hs) = []

-- what is updated: the words after the house and the directory
abbrev pub updated_words : Update → List (List ℕ)
updated_words (update.Create s) = s ∷ []
updated_words (update.MakeLink s n) = s ∷ full_name_octets n ∷ []
updated_words (update.MakeChild s p) = []
updated_words (update.Delete s) = s ∷ []
updated_words (update.Add s a v) = s ∷ a ∷ encode_lower v ∷ []
updated_words (update.Remove s a v) = s ∷ a ∷ encode_lower v ∷ []
updated_words (update.Put s a v) = s ∷ a ∷ encode_lower v ∷ []
updated_words (update.Clear s a) = s ∷ a ∷ []
updated_words (update.Repoint s hs) = []

-- the words of a command
abbrev pub command_words : Command → List (List ℕ)
command_words (command.House h n) =
    codes "house" ∷ house_word h ∷ encode_lower (node_octets n) ∷ []
command_words (command.Clock h t) = codes "clock" ∷ house_word h ∷ decimal t ∷ []
command_words (command.Root h ls) = codes "root" ∷ house_word h ∷ map listed_word ls
command_words (command.Mkdir h d s m ls) =
    codes "mkdir" ∷ house_word h ∷ decimal d.0 ∷ s ∷ house_word m ∷ map listed_word ls
command_words (command.Repoint h d s m hs) =
    codes "repoint" ∷ house_word h ∷ decimal d.0 ∷ s ∷ house_word m ∷ map house_word hs
command_words (command.Update h d u) =
    update_word u ∷ house_word h ∷ decimal d.0 ∷ updated_words u
command_words (command.Epoch d m ls) =
    codes "epoch" ∷ decimal d.0 ∷ house_word m ∷ map listed_word ls
command_words (command.Skulk h d) = codes "skulk" ∷ house_word h ∷ decimal d.0 ∷ []
command_words (command.Deliver n) = codes "deliver" ∷ decimal n ∷ []
command_words (command.Lose n) = codes "lose" ∷ decimal n ∷ []
command_words (command.Crash h) = codes "crash" ∷ house_word h ∷ []
command_words (command.Start h) = codes "start" ∷ house_word h ∷ []

-- its line, without its end
abbrev pub command_line : Command → List ℕ
command_line c = unwords (command_words c)

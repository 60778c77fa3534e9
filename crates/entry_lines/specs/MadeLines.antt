-- The lines that are made for the entries of a house.
use Rattle.std.specs.Prelude.{ℕ, List, [], ◌∷◌, ◌++◌, decimal, drop, take}
use Rattle.cds_stamps.specs.declared.numbers.HouseNo.{HouseNo}
use Rattle.cell_script.specs.Words.{words_of}
use Rattle.cell_script.specs.declared.command.Command.TheVariants as command
use Rattle.script_answers.specs.Texts.{spaced}
use Rattle.command_lines.specs.CommandTexts.{command_line}
use Rattle.command_lines.specs.ListedMembers.{listed_others}
use Rattle.house_lines.specs.declared.line.HouseOrder.{HouseOrder}
use Rattle.house_lines.specs.declared.line.HouseOrder.TheVariants as order

-- the first one of words, if there is one
abbrev pub first_in : List (List ℕ) → List ℕ
first_in [] = []
first_in (w ∷ ws) = w

-- a command of the house h
abbrev pub house_line : (command : List ℕ) → (h : HouseNo) → List ℕ
house_line command h = command ++ (32 ∷ decimal h.0)

-- the words of a turn of the house h, with the house after the first one
abbrev pub same_line : (h : HouseNo) → (own : List (List ℕ)) → List ℕ
same_line h own = house_line (first_in own) h ++ spaced (drop 1 own)

-- those of `mkdir D S N R..`: without the number N, and with h as the master
abbrev pub mkdir_line : (h : HouseNo) → (own : List (List ℕ)) → List ℕ
mkdir_line h own =
    house_line (first_in own) h
    ++ (spaced (take 2 (drop 1 own)) ++ ((32 ∷ decimal h.0) ++ spaced (drop 4 own)))

-- the line of a turn of the house h: its own words, or what its order says; of `take` the message
-- of this serial number is delivered
abbrev pub turn_line : (h : HouseNo) → (line : List ℕ) → HouseOrder → (serial : ℕ) → List ℕ
turn_line h line (order.Mkdir d n made ls) serial = mkdir_line h (words_of line)
turn_line h line (order.Epoch d k list) serial = command_line (command.Epoch d h (listed_others h list.members))
turn_line h line (order.Take octets) serial = command_line (command.Deliver serial)
turn_line h line other serial = same_line h (words_of line)

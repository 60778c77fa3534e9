-- The script of the form `load`: a list of commands for each number of rounds.
use Rattle.std.specs.Prelude.{◌≡◌, ℕ, zero, suc, ◌+◌, ◌*◌, ◌/◌, ◌%◌, Bool, false, ◌||◌, ◌==◌, nat_lt, if◌then◌else◌}
use Rattle.std.specs.Prelude.{List, [], ◌∷◌, ◌++◌, map, Option, Some, None, codes}
use Rattle.std.specs.List.{enumerate_from, flat_map, range_with_len}
use Rattle.std.specs.Fmt.{decimal}
use Rattle.cds_stamps.specs.declared.numbers.HouseNo.{HouseNo}
use Rattle.cds_stamps.specs.declared.numbers.DirId.{DirId}
use Rattle.directory.specs.declared.update.Update.{Update}
use Rattle.directory.specs.declared.update.Update.TheVariants as update
use Rattle.cell_script.specs.declared.command.Command.{Command}
use Rattle.cell_script.specs.declared.command.Command.TheVariants as command
use Rattle.cell_script.specs.declared.command.ScriptLine.{ScriptLine}
use Rattle.cell_script.specs.declared.lists.Listed.{Listed}
use Rattle.cell_script.specs.declared.command.ScriptLine.TheVariants as line

-- A part of the script: its commands post messages, of which some are delivered, and then all are
-- lost. Which are delivered is told by the serial number of the first
pub record Part : Type 0 where
  pub commands : List Command
  pub delivered : (first : ℕ) → List ℕ
  pub posted : ℕ

-- the commands of parts, one after another: first is the serial number of the next message
abbrev pub laid_out : (first : ℕ) → List Part → List Command
laid_out first [] = []
laid_out first (p ∷ ps) =
    p.commands ++ (map command.Deliver (p.delivered first) ++ (map command.Lose (range_with_len first p.posted) ++ laid_out (first + p.posted) ps))

-- no message is delivered; the first one is; so many from the first one on are
abbrev pub nobody : ℕ → List ℕ
nobody first = []

-- the first message alone is delivered
abbrev pub the_first : ℕ → List ℕ
the_first first = first ∷ []

abbrev pub so_many : (count : ℕ) → ℕ → List ℕ
so_many count first = range_with_len first count

-- ---- the cell: three houses, and a directory of 16 entries at each

-- a house by its number
abbrev pub house : ℕ → HouseNo
house n = record { 0 = n }

-- a read-only house of a replica set, by its number
abbrev pub reader : ℕ → Listed
reader n = record { house = house n; secondary = false }

-- the directory
abbrev pub the_root : DirId
the_root = record { 0 = 1 }

-- house n has the node n
abbrev pub house_made : ℕ → Command
house_made n = command.House (house n) n

-- the root directory at house 1, which is its master, and at houses 2 and 3
abbrev pub root_made : Command
root_made = command.Root (house 1) (reader 2 ∷ reader 3 ∷ [])

-- houses 1, 2 and 3, and the root directory, of which the two others are told
abbrev pub first_part : Part
first_part = record { commands = map house_made (range_with_len 1 3) ++ root_made ∷ []; delivered = so_many 2; posted = 2 }

-- the name of entry k: `e0` to `e15`
abbrev pub entry_name : ℕ → List ℕ
entry_name k = codes "e" ++ decimal k

-- an update of the directory at house 1
abbrev pub updated : Update → Command
updated = command.Update (house 1) the_root

-- entry k is made at house 1
abbrev pub entry_made : ℕ → Command
entry_made k = updated (update.Create (entry_name k))

-- entry k is deleted at house 1
abbrev pub entry_deleted : ℕ → Command
entry_deleted k = updated (update.Delete (entry_name k))

-- its attribute `A` gets or loses a value of one octet
abbrev pub value_added : (k v : ℕ) → Command
value_added k v = updated (update.Add (entry_name k) (codes "A") (v ∷ []))

-- the attribute `A` of entry k loses a value of one octet
abbrev pub value_removed : (k v : ℕ) → Command
value_removed k v = updated (update.Remove (entry_name k) (codes "A") (v ∷ []))

-- entry k, of which nobody is told
abbrev pub entry : ℕ → Part
entry k = record { commands = entry_made k ∷ []; delivered = nobody; posted = 2 }

-- ---- rounds

-- the number after x: they look random
abbrev pub next_draw : ℕ → ℕ
next_draw x = (x * 1103515245 + 12345) % 2147483648

-- so many numbers after x
abbrev pub draws : (x count : ℕ) → List ℕ
draws x zero = []
draws x (suc count) = next_draw x ∷ draws (next_draw x) count

-- what a number says of its round: the entry, the value, what is done with them, and whether one of
-- the houses is told
abbrev pub drawn_entry : ℕ → ℕ
drawn_entry x = x / 256 % 16

-- the value that a number says, which is an octet
abbrev pub drawn_value : ℕ → ℕ
drawn_value x = x / 256 / 16 % 256

-- what a number says is done: 0 to 4 add the value, 5 and 6 remove it, and 7 makes the entry anew
abbrev pub drawn_change : ℕ → ℕ
drawn_change x = x / 256 / 4096 % 8

-- whether a number says that one of the houses is told
abbrev pub is_told : ℕ → Bool
is_told x = x / 256 / 32768 % 2 == 1

-- the value is added, where this is from 0 to 4, or else removed
abbrev pub value_changed : (change k v : ℕ) → Command
value_changed change k v = if nat_lt change 5 then value_added k v else value_removed k v

-- a change of a value
abbrev pub value_round : ℕ → Part
value_round x =
    record {
      commands = value_changed (drawn_change x) (drawn_entry x) (drawn_value x) ∷ [];
      delivered = if is_told x then the_first else nobody;
      posted = 2;
    }

-- the entry is deleted and made again; of each of the two, one house is told or none
abbrev pub new_entry_round : ℕ → Part
new_entry_round x =
    record {
      commands = entry_deleted (drawn_entry x) ∷ entry_made (drawn_entry x) ∷ [];
      delivered = if is_told x then (λ first. first ∷ (first + 2) ∷ []) else nobody;
      posted = 4;
    }

-- one number in eight makes its entry anew
abbrev pub change_round : ℕ → Part
change_round x = if drawn_change x == 7 then new_entry_round x else value_round x

-- house 1 begins a skulk of the root directory
abbrev pub skulk_made : Command
skulk_made = command.Skulk (house 1) the_root

-- a skulk: two messages begin each of its rounds, two answer in each, and two tell that all is
-- complete
abbrev pub skulk : Part
skulk = record { commands = skulk_made ∷ []; delivered = so_many 10; posted = 10 }

-- a skulk comes after each round whose number 32 divides, and after the last
abbrev pub ends_with_skulk : (last round : ℕ) → Bool
ends_with_skulk last round = (round % 32 == 0) || (round == last)

-- a skulk where one is due, and else nothing
abbrev pub skulk_if : Bool → List Part
skulk_if due = if due then skulk ∷ [] else []

-- round number r with its number x
abbrev pub round_of : (last : ℕ) → ℕ × ℕ → List Part
round_of last (r, x) = change_round x ∷ skulk_if (ends_with_skulk last r)

-- the rounds after number `before`, with the numbers that are drawn from x on
abbrev pub rounds_behind : (last before x count : ℕ) → List Part
rounds_behind last before x count = flat_map (round_of last) (enumerate_from (before + 1) (draws x count))

-- ---- the script

-- the cell, its entries, and n rounds with the numbers from n on
abbrev pub parts_of : ℕ → List Part
parts_of n = first_part ∷ (map entry (range_with_len 0 16) ++ rounds_behind n 0 n n)

-- the commands of the script with n rounds
abbrev pub script : ℕ → List Command
script n = laid_out 1 (parts_of n)

-- ---- one after another

-- the first command of a list was taken off, and none exactly where there is none
abbrev pub TakesFirst : (old new : List Command) → Option ScriptLine → Type 0
TakesFirst [] new said = (said ≡ None) × (new ≡ [])
TakesFirst (c ∷ cs) new said = (said ≡ Some (line.Cell c)) × (new ≡ cs)

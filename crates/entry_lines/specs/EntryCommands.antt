-- The commands of a script that do what a house did by its journal.
use Rattle.std.specs.Prelude.{◌≡◌, ℕ, List, Option, Some, None}
use Rattle.cds_stamps.specs.declared.numbers.DirId.{DirId}
use Rattle.cds_stamps.specs.declared.numbers.HouseNo.{HouseNo}
use Rattle.cell_script.specs.declared.command.Command.{Command}
use Rattle.cell_script.specs.declared.command.Command.TheVariants as command
use Rattle.cell_script.specs.declared.lists.Listed.{Listed}
use Rattle.house_lines.specs.declared.line.HouseOrder.{HouseOrder}
use Rattle.house_lines.specs.declared.line.HouseOrder.TheVariants as order

-- a command does the order at the house h, which takes the message of this serial number if it
-- takes one. The number of a new directory, and the list of an epoch, are the console's
abbrev pub IsCommandOf : (h : HouseNo) → HouseOrder → (serial : ℕ) → Command → Type 0
IsCommandOf h (order.Root ls) serial c = c ≡ command.Root h ls
IsCommandOf h (order.Mkdir d n made ls) serial c = c ≡ command.Mkdir h d n h ls
IsCommandOf h (order.Repoint d n m rs) serial c = c ≡ command.Repoint h d n m rs
IsCommandOf h (order.Update d u) serial c = c ≡ command.Update h d u
IsCommandOf h (order.Skulk d) serial c = c ≡ command.Skulk h d
IsCommandOf h (order.Epoch d k list) serial c = (ls : List Listed) × (c ≡ command.Epoch d h ls)
IsCommandOf h (order.Take octets) serial c = c ≡ command.Deliver serial

-- Which commands a line can say.
use Rattle.std.specs.Prelude.{◌≡◌, ℕ, ◌^◌, ◌<◌, ◌≤◌, List, None}
use Rattle.std.specs.List.{AllByRecursion}
use Rattle.hex.specs.Hex.{IsBytes}
use Rattle.cds_stamps.specs.Names.{attr_fault, simple_name_fault}
use Rattle.cds_stamps.specs.Numbers.{node_bits}
use Rattle.cds_stamps.specs.declared.numbers.HouseNo.{HouseNo}
use Rattle.attr_sets.specs.Values.{value_fault}
use Rattle.cell_names.specs.FullNames.{IsComponentList}
use Rattle.directory.specs.declared.update.Update.{Update}
use Rattle.directory.specs.declared.update.Update.TheVariants as update
use Rattle.cell_script.specs.declared.command.Command.{Command}
use Rattle.cell_script.specs.declared.command.Command.TheVariants as command
use Rattle.cell_script.specs.declared.lists.Listed.{Listed}
use Rattle.cell_script.specs.Words.{most_directory, most_house, most_serial}

-- the number of a house, of a directory and of a message, as lines have them
abbrev pub IsHouse : ℕ → Type 0
IsHouse x = (1 ≤ x) × (x ≤ most_house)

abbrev pub IsDirectory : ℕ → Type 0
IsDirectory d = (1 ≤ d) × (d ≤ most_directory)

abbrev pub IsSerial : ℕ → Type 0
IsSerial n = (1 ≤ n) × (n ≤ most_serial)

-- houses, and houses of a replica set
abbrev pub AreHouses : List HouseNo → Type 0
AreHouses = AllByRecursion (λ h. IsHouse h.0)

abbrev pub AreListed : List Listed → Type 0
AreListed = AllByRecursion (λ l. IsHouse l.house.0)

-- octets are a simple name, the name of an attribute, or a value
abbrev pub IsSimple : List ℕ → Type 0
IsSimple s = simple_name_fault s ≡ None

abbrev pub IsAttr : List ℕ → Type 0
IsAttr a = attr_fault a ≡ None

pub record IsValue (v : List ℕ) : Type 0 where
  pub octets : IsBytes v
  pub sized : value_fault v ≡ None

-- an update that a line can say: it has names and values, and makes no child
abbrev pub CanUpdate : Update → Type 0
CanUpdate (update.Create s) = IsSimple s
CanUpdate (update.MakeLink s n) = IsSimple s × IsComponentList n
CanUpdate (update.MakeChild s p) = ⊥
CanUpdate (update.Delete s) = IsSimple s
CanUpdate (update.Add s a v) = IsSimple s × IsAttr a × IsValue v
CanUpdate (update.Remove s a v) = IsSimple s × IsAttr a × IsValue v
CanUpdate (update.Put s a v) = IsSimple s × IsAttr a × IsValue v
CanUpdate (update.Clear s a) = IsSimple s × IsAttr a
CanUpdate (update.Repoint s hs) = ⊥

-- a command that a line can say: its numbers are some that lines have
abbrev pub CanBeSaid : Command → Type 0
CanBeSaid (command.House h n) = IsHouse h.0 × (n < 2 ^ node_bits)
CanBeSaid (command.Clock h t) = IsHouse h.0 × (t ≤ most_serial)
CanBeSaid (command.Root h ls) = IsHouse h.0 × AreListed ls
CanBeSaid (command.Mkdir h d s m ls) =
    IsHouse h.0 × IsDirectory d.0 × IsSimple s × IsHouse m.0 × AreListed ls
CanBeSaid (command.Repoint h d s m hs) =
    IsHouse h.0 × IsDirectory d.0 × IsSimple s × IsHouse m.0 × AreHouses hs
CanBeSaid (command.Update h d u) = IsHouse h.0 × IsDirectory d.0 × CanUpdate u
CanBeSaid (command.Epoch d m ls) = IsDirectory d.0 × IsHouse m.0 × AreListed ls
CanBeSaid (command.Skulk h d) = IsHouse h.0 × IsDirectory d.0
CanBeSaid (command.Deliver n) = IsSerial n
CanBeSaid (command.Lose n) = IsSerial n
CanBeSaid (command.Crash h) = IsHouse h.0
CanBeSaid (command.Start h) = IsHouse h.0

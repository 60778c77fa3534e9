-- What a line of a house tells it to do, as an order (own, after C705, updates, skulks and new
-- epochs).
use Rattle.std.specs.Prelude.{ℕ, List}
use Rattle.cds_stamps.specs.Members.{members_of}
use Rattle.directory.specs.Updates.{Repoint, change_of}
use Rattle.cell_model.specs.Steps.{sorted_houses}
use Rattle.cell_script.specs.Listings.{houses_in, secondaries_in}
use Rattle.cell_script.specs.declared.lists.Listed.{Listed}
use Rattle.house_directory.specs.HouseMessages.{numbers_of}
use Rattle.house_lines.specs.declared.line.HouseOrder.{HouseOrder}
use Rattle.house_lines.specs.declared.line.HouseOrder.TheVariants as does
use Rattle.cell_runs.specs.Entries.{Order, Root, Mkdir, Accept, Skulk, Epoch, Take}

-- the numbers of listed houses (own)
abbrev pub listed_houses : List Listed → List ℕ
listed_houses ls = numbers_of (houses_in ls)

-- and of those that are secondary (own)
abbrev pub listed_secondaries : List Listed → List ℕ
listed_secondaries ls = numbers_of (secondaries_in ls)

-- what a line tells a house to do (own)
abbrev pub order_of : HouseOrder → Order
order_of (does.Root ls) = Root (listed_houses ls) (listed_secondaries ls)
order_of (does.Mkdir d n made ls) =
    Mkdir d.0 n made.0 (listed_houses ls) (listed_secondaries ls)
order_of (does.Repoint d n h rs) = Accept d.0 (Repoint n h.0 (sorted_houses (numbers_of rs)))
order_of (does.Update d u) = Accept d.0 (change_of u)
order_of (does.Skulk d) = Skulk d.0
order_of (does.Epoch d k list) = Epoch d.0 k.0 (members_of list.members) (numbers_of list.leaving)
order_of (does.Take octets) = Take octets

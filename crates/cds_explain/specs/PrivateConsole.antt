-- What the console of a cell has to have for an order.
use Rattle.std.specs.Prelude.{◌≡◌, ℕ, ◌+◌, ◌≤◌, List}
use Rattle.cds_stamps.specs.Members.{Member, members_of}
use Rattle.cell_model.specs.Cells.{Cell}
use Rattle.cell_model.specs.Steps.{left_members}
use Rattle.house_directory.specs.HouseMessages.{numbers_of}
use Rattle.house_lines.specs.declared.line.HouseOrder.{HouseOrder}
use Rattle.house_lines.specs.declared.line.HouseOrder.TheVariants as order
use Rattle.cds_explain.specs.PrivateComparing.{IsPosted}

-- the order of the house x can be next: there is no root yet, or one; the number of a directory or
-- of an epoch is the next; and the message of this serial number is the one that it takes
abbrev pub IsReady : Cell → (x : ℕ) → HouseOrder → (serial : ℕ) → Type 0
IsReady g x (order.Root ls) serial = g.top 1 ≡ 0
IsReady g x (order.Mkdir d n made ls) serial = (1 ≤ g.top 1) × (g.next_dir ≡ made.0)
IsReady g x (order.Epoch d k list) serial = (1 ≤ g.top d.0) × (k.0 ≡ g.top d.0 + 1)
IsReady g x (order.Take octets) serial = IsPosted g serial x octets
IsReady g x other serial = Unit {0}

-- the members that the directory of an epoch has
abbrev pub HasMembers : Cell → HouseOrder → List Member → Type 0
HasMembers g (order.Epoch d k list) ms = 1 ≤ g.top d.0 → ms ≡ g.present d.0
HasMembers g other ms = Unit {0}

-- the console lists the members of an epoch, and those that leave are those of before that it has
-- no more
abbrev pub IsListedAs : Cell → HouseOrder → (before : List Member) → Type 0
IsListedAs g (order.Epoch d k list) before =
    (g.present d.0 ≡ members_of list.members)
    × (left_members before (members_of list.members) ≡ numbers_of list.leaving)
IsListedAs g other before = Unit {0}
